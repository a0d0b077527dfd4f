use Rattle.std.proofs.Common.{option_copied, ap, subst, sym, ◌∙◌}
use Rattle.std.proofs.lemmas.Result.{IfOk-from_err}
use Rattle.listing_plan.specs.declared.plan.Plan.TheVariants.{Rows}
use Rattle.share_history.specs.Histories.{edits}
use Rattle.share_history.specs.Rows.{rows}
use Rattle.share_listings.specs.Answers.{StartFrom}
use Rattle.share_listings.proofs.LibraryFacts.{selected_fit, selected_is}
use Rattle.share_listings.proofs.MembershipFacts.{told_beside}
use Rattle.share_listings.proofs.whole.selected.Goals as goal

pub rows_selected-requires : goal.rows_selected-requires
rows_selected-requires g c = record {
  beside = told_beside c.args.items.now c.args.target c.args.membership c.requires.few;
  start = λ bs stands. subst (λ q. StartFrom (edits bs) q (option_copied c.args.candidates)) (sym c.as_ref-query.ensures.value) (c.requires.start bs stands);
}

pub full_plan-requires : goal.full_plan-requires
full_plan-requires g c =
    let few = c.requires.few in
    selected_fit (edits few.bs) c.args.target (option_copied c.as_ref-query.result) c.in_ok-rows.rows.items (c.in_ok-rows.ensures.rows few.bs few.tells) c.in_ok-rows.ensures.members few.few

pub returns : goal.returns
returns g c = record {
  listing = λ bs tells.
      c.full_plan.ensures
      ∙ ap (λ l. Rows (record { target = c.args.target; listing = l }))
      (selected_is bs c.args.target c.args.look c.revision.result c.in_ok-rows.rows.items (c.revision.ensures ∙ tells.stands.revision)
      (c.in_ok-rows.ensures.rows bs tells ∙ ap (rows (edits bs) c.args.target) c.as_ref-query.ensures.value));
  cost = c.in_ok-rows.ensures.cost;
}

pub returns-in_err-rows : goal.returns-in_err-rows
returns-in_err-rows g c = record { listing = IfOk-from_err c.from_residual.result _ c.from_residual.ensures.0; cost = c.rows_selected.ensures.cost }
