use Rattle.std.proofs.Common.{◌≡◌, ap, ◌∙◌, rules}
use Rattle.std.proofs.lemmas.Result.{IfOk-from_err}
use Rattle.listing_plan.specs.Plans.{keyed}
use Rattle.row_sheets.specs.Spelled.{Spelled}
use Rattle.row_sheets.specs.Sheets.{by_id, rows_on, rows_in}
use Rattle.share_listings.proofs.SheetFacts.{within, within_more}
use Rattle.share_listings.proofs.sheets.rows_within.Goals as goal

pub loop-sheet-preserved : goal.loop-sheet-preserved
loop-sheet-preserved c =
    let sheets = c.sheets-sheets.result.now in
    let sheet = c.sheet-item.result in
    let rows = c.rows-on_sheet.result.now in
    let left = c.loop-sheet.left in
    let past = c.past-left.result in
    let on : rows ≡ rows_on sheet = c.rows-on_sheet.ensures.rows ∙ ap (λ (spelled : Spelled). spelled.rows) c.deref.ensures in
    record {
      rows =
          within_more sheets c.loop-sheet.sheet-index sheet rows left.from left.to past.from past.to (keyed c.loop-sheet.found.items) (keyed c.push_within.new.found.items)
          (within c.args.window.from c.args.window.to (by_id (rows_in sheets)))
          (search rules) c.sheet-item.is on c.past-left.ensures.from c.past-left.ensures.to c.in_ok-push_within.ensures.rows c.loop-sheet.invariant.rows;
      members = search rules;
    }

pub returns-in_err-push_within : goal.returns-in_err-push_within
returns-in_err-push_within c = record { rows = IfOk-from_err c.from_residual.result _ c.from_residual.ensures.0; members = IfOk-from_err c.from_residual.result _ c.from_residual.ensures.0 }
