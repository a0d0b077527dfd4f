use Rattle.std.proofs.Common.{◌∙◌}
use Rattle.std.proofs.lemmas.List.{at_drop_all}
use Rattle.row_sheets.specs.Sheets.{rows_in}
use Rattle.listing_plan.specs.Held.{sheet_bytes}
use Rattle.listing_plan.proofs.Moves.{cut_left, less_left, none_left}
use Rattle.listing_plan.proofs.SheetFacts.{all_sheets, sheets_next}
use Rattle.listing_plan.proofs.sheets.push_sheets.Goals as goal

pub returns-in_err-push_sheet-clause-pushes : goal.returns-in_err-push_sheet-clause-pushes
returns-in_err-push_sheet-clause-pushes g c =
    let sheets = c.sheets-sheet-items.result.now in
    let next = sheets_next c.args.target c.args.asked.now sheets c.loop-sheet.sheet-index c.sheet-item.result c.deref.result.now c.loop-sheet-test.true c.sheet-item.is c.deref.ensures in
    let whole = all_sheets c.args.target c.args.asked.now sheets c.args.rows.now c.sheets-sheet-items.ensures.rows in
    rw whole (cut_left _ _ _ _ _ _ _ _ _ _ _ _ _ _ _ c.from_residual.ensures.0 (rw next at c.loop-sheet.invariant.left) c.in_err-push_sheet.ensures.pushes)

pub loop-sheet-preserved : goal.loop-sheet-preserved
loop-sheet-preserved g c =
    let sheets = c.sheets-sheet-items.result.now in
    let next = sheets_next c.args.target c.args.asked.now sheets c.loop-sheet.sheet-index c.sheet-item.result c.deref.result.now c.loop-sheet-test.true c.sheet-item.is c.deref.ensures in
    record {
      left = less_left _ _ _ _ _ _ _ _ _ _ _ _ (rw next at c.loop-sheet.invariant.left) c.in_ok-push_sheet.ensures.pushes;
      beside = c.in_ok-push_sheet.ensures.beside ∙ c.loop-sheet.invariant.beside;
    }

pub returns-clause-pushes : goal.returns-clause-pushes
returns-clause-pushes g c =
    let sheets = c.sheets-sheet-items.result.now in
    let whole = all_sheets c.args.target c.args.asked.now sheets c.args.rows.now c.sheets-sheet-items.ensures.rows in
    let none = at_drop_all (λ ss. sheet_bytes c.args.target c.args.asked.now (rows_in ss)) sheets c.loop-sheet.sheet-index c.loop-sheet-test.false in
    rw whole (none_left _ _ _ _ _ _ _ (rw none at c.loop-sheet.invariant.left))
