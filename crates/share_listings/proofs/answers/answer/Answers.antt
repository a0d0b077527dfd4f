use Rattle.std.proofs.Common.{option_copied, ap, sym, ◌∙◌, arith}
use Rattle.listing_plan.specs.declared.plan.Plan.TheVariants.{Rows}
use Rattle.share_listings.proofs.AnswerFacts.{listing_kept, listing_lost, ticks_kept, ticks_lost}
use Rattle.share_listings.proofs.OnSuccess.{if_ok}
use Rattle.share_listings.proofs.answers.answer.Goals as goal

pub is_kept-requires : goal.is_kept-requires
is_kept-requires g c = record { few = (c.args.target, c.requires.few) }

pub delta-requires : goal.delta-requires
delta-requires g c = record {
  few = c.requires.few;
  kept = λ bs tells. sym (c.is_kept.ensures.kept bs c.args.target tells) ∙ c.if-is_kept.true;
  from = c.is_kept.ensures.from c.if-is_kept.true;
  to = c.is_kept.ensures.to c.if-is_kept.true;
}

pub full-requires : goal.full-requires
full-requires g c = record { few = c.requires.few; start = c.requires.start }

pub returns-then-is_kept : goal.returns-then-is_kept
returns-then-is_kept g c =
    let keep = c.args.items.now.keep in
    let t = c.args.target in
    let look = c.args.look in
    record {
      listing =
          if_ok c.delta.result
          (λ plan told bs tells.
          told bs tells
          ∙ ap (λ l. Rows (record { target = t; listing = l })) (listing_kept keep bs t look (sym (c.is_kept.ensures.kept bs t tells) ∙ c.if-is_kept.true)))
          c.delta.ensures.listing;
      cost = λ bs tells.
          omega (
            arith,
            c.delta.ensures.cost bs tells,
            ticks_kept keep bs t look.base (option_copied c.args.candidates) (sym (c.is_kept.ensures.kept bs t tells) ∙ c.if-is_kept.true),
          );
    }

pub returns-else-is_kept : goal.returns-else-is_kept
returns-else-is_kept g c =
    let keep = c.args.items.now.keep in
    let t = c.args.target in
    let look = c.args.look in
    record {
      listing =
          if_ok c.full.result
          (λ plan told bs tells.
          told bs tells
          ∙ ap (λ l. Rows (record { target = t; listing = l })) (listing_lost keep bs t look (sym (c.is_kept.ensures.kept bs t tells) ∙ c.if-is_kept.false)))
          c.full.ensures.listing;
      cost = λ bs tells.
          omega (
            arith,
            c.full.ensures.cost bs tells,
            ticks_lost keep bs t look.base (option_copied c.args.candidates) (sym (c.is_kept.ensures.kept bs t tells) ∙ c.if-is_kept.false),
          );
    }
