use Rattle.std.proofs.Common.{refl, ap, ◌∙◌, arith}
use Rattle.std.proofs.lemmas.Result.{IfOk-from_err}
use Rattle.listing_plan.specs.declared.plan.Plan.TheVariants.{Rows}
use Rattle.share_history.specs.Kept.{touched}
use Rattle.share_listings.specs.Changes.{TellsSince, listed_at, is_deleted}
use Rattle.share_listings.proofs.AnswerFacts.{delta_fit, gone_fit}
use Rattle.share_listings.proofs.ChangeFacts.{delta_is}
use Rattle.share_listings.proofs.answers.delta.Goals as goal

pub delta_plan-requires : goal.delta_plan-requires
delta_plan-requires g c =
    let few = c.requires.few in
    let look = c.args.look in
    let since : TellsSince few.bs c.args.items.now c.args.target c.args.membership look.base = record { tells = few.tells; kept = c.requires.kept few.bs few.tells } in
    let keys = touched few.bs c.args.target look.base in
    let changed = c.in_ok-changed.changed in
    record {
      rows =
          delta_fit few.bs c.args.target (listed_at few.bs c.args.target look) look.base keys changed.rows.items refl (c.in_ok-changed.ensures.rows few.bs since)
          c.in_ok-changed.ensures.members few.few;
      gone = gone_fit few.bs c.args.target (is_deleted few.bs c.args.target look) look.base keys changed.gone.items refl (c.in_ok-changed.ensures.gone few.bs since) few.few;
    }

pub returns : goal.returns
returns g c = record {
  listing = λ bs tells.
      let target = c.args.target in
      let look = c.args.look in
      let kept = c.requires.kept bs tells in
      let since : TellsSince bs c.args.items.now target c.args.membership look.base = record { tells = tells; kept = kept } in
      c.delta_plan.ensures
      ∙ ap (λ l. Rows (record { target = target; listing = l }))
      (delta_is c.args.items.now.keep bs target look kept c.revision.result (touched bs target look.base) c.in_ok-changed.changed.gone.items c.in_ok-changed.changed.rows.items
      (c.revision.ensures ∙ tells.stands.revision) refl (c.in_ok-changed.ensures.rows bs since) (c.in_ok-changed.ensures.gone bs since));
  cost = λ bs tells. omega (arith, c.in_ok-changed.ensures.cost bs tells);
}

pub returns-in_err-changed : goal.returns-in_err-changed
returns-in_err-changed g c = record { listing = IfOk-from_err c.from_residual.result _ c.from_residual.ensures.0; cost = λ bs tells. omega (arith, c.changed_since.ensures.cost bs tells) }
