use Rattle.std.proofs.Common.{None, refl, sym, ap, ◌∙◌}
use Rattle.std.proofs.lemmas.Result.{IfOk-from_err}
use Rattle.listing_plan.specs.Plans.{keyed}
use Rattle.listing_plan.specs.declared.plan.Plan.TheVariants.{Rows}
use Rattle.share_history.specs.Histories.{edits}
use Rattle.share_listings.proofs.LibraryFacts.{part_fit, listed_is}
use Rattle.share_listings.proofs.library.part.Goals as goal

pub full-requires : goal.full-requires
full-requires c =
    let few = c.requires.few in
    let rs = c.rows-rows.result.now in
    record {
      rows =
          part_fit (edits few.bs) c.args.target c.args.range rs c.in_ok-listed.listed.items (c.rows-rows.ensures few.bs few.stands)
          (c.in_ok-listed.ensures.rows ∙ sym (c.window_of.ensures rs (sym c.len-total.ensures.len))) c.in_ok-listed.ensures.members few.few;
    }

pub returns : goal.returns
returns c = λ bs stands.
    let rs = c.rows-rows.result.now in
    c.full.ensures
    ∙ ap (λ l. Rows (record { target = c.args.target; listing = l }))
    (listed_is bs c.args.target (record { query = None; meta = c.args.meta; base = 0; range = c.args.range }) c.revision.result c.len-total.result rs (keyed c.in_ok-listed.listed.items)
    c.requires.all refl (c.revision.ensures ∙ stands.revision) (c.rows-rows.ensures bs stands) c.len-total.ensures.len
    (c.in_ok-listed.ensures.rows ∙ sym (c.window_of.ensures rs (sym c.len-total.ensures.len))))

pub returns-in_err-listed : goal.returns-in_err-listed
returns-in_err-listed c = IfOk-from_err c.from_residual.result _ c.from_residual.ensures.0
