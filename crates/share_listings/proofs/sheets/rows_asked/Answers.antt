use Rattle.std.proofs.Common.{◌≡◌, option_copied, ap, arith, rules}
use Rattle.listing_plan.specs.Plans.{keyed}
use Rattle.row_sheets.specs.Spelled.{Spelled}
use Rattle.row_sheets.specs.Sheets.{by_id, rows_on, rows_in}
use Rattle.share_listings.proofs.SheetFacts.{selected_by, selected_more, fewer_left}
use Rattle.share_listings.proofs.sheets.rows_asked.Goals as goal

pub loop-sheet-preserved : goal.loop-sheet-preserved
loop-sheet-preserved g c =
    let query = option_copied c.args.query in
    let sheets = c.sheets-sheets.result.now in
    let i = c.loop-sheet.sheet-index in
    let sheet = c.sheet-item.result in
    let rows = c.deref.result.now.rows in
    let on : rows ≡ rows_on sheet = ap (λ (spelled : Spelled). spelled.rows) c.deref.ensures in
    record {
      rows =
          selected_more sheets i sheet rows query (keyed c.loop-sheet.found.items) (keyed c.push_asked.new.found.items) (selected_by query (by_id (rows_in sheets)))
          (search rules) c.sheet-item.is on c.in_ok-push_asked.ensures.rows c.loop-sheet.invariant.rows;
      members = search rules;
      cost = omega (arith, c.in_ok-push_asked.ensures.cost, c.loop-sheet.invariant.cost, fewer_left sheets i sheet rows (search rules) c.sheet-item.is on);
    }
