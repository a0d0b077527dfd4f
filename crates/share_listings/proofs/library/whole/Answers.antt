use Rattle.std.proofs.Common.{None, length, refl, sym, ap, ◌∙◌}
use Rattle.std.proofs.lemmas.Result.{IfOk-from_err}
use Rattle.listing_plan.specs.declared.plan.Plan.TheVariants.{Rows}
use Rattle.share_history.specs.Histories.{edits}
use Rattle.share_listings.proofs.LibraryFacts.{few_items, listed_is}
use Rattle.share_listings.proofs.library.whole.Goals as goal

pub sheets-requires-2 : goal.sheets-requires-2
sheets-requires-2 c = let few = c.requires.few in few_items (edits few.bs) c.in_ok-rows.rows (c.in_ok-rows.ensures few.bs few.stands) few.few

pub returns : goal.returns
returns c = λ bs range stands whole.
    let rs = c.in_ok-rows.rows in
    c.sheets-2.ensures
    ∙ ap (λ l. Rows (record { target = c.args.target; listing = l }))
    (listed_is bs c.args.target (record { query = None; meta = c.args.meta; base = 0; range = range }) c.revision.result (length rs) rs rs c.requires.all refl
    (c.revision.ensures ∙ stands.revision) (c.in_ok-rows.ensures bs stands) refl (sym (whole rs)))

pub returns-in_err-rows : goal.returns-in_err-rows
returns-in_err-rows c = IfOk-from_err c.from_residual.result _ c.from_residual.ensures.0
