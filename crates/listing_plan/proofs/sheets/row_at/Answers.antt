use Rattle.std.proofs.Common.{◌≡◌, get_or}
use Rattle.listing_plan.proofs.SheetFacts.{id_at, is_sheet_row, sheet_next}
use Rattle.listing_plan.proofs.sheets.row_at.Goals as goal

pub returns-clause-row : goal.returns-clause-row
returns-clause-row c =
    let rows = c.args.sheet.now.rows in
    let row = c.index-rows-index.result in
    let i = c.args.index in
    let at : row ≡ get_or rows i row = rw c.rows-rows.ensures.rows at c.index-rows-index.is in
    let own = id_at rows c.ids-ids.result.now i row c.ids-ids.ensures c.requires.index at in
    is_sheet_row c.args.asked.now _ c.requires.index at own c.rows-rows.ensures.values c.requires.others c.requires.once c.requires.runs

pub returns-clause-next : goal.returns-clause-next
returns-clause-next c = λ target.
    let rows = c.args.sheet.now.rows in
    let row = c.index-rows-index.result in
    let at : row ≡ get_or rows c.args.index row = rw c.rows-rows.ensures.rows at c.index-rows-index.is in
    sheet_next target c.args.asked.now c.args.sheet.now.properties rows c.args.index row c.args.runs.now c.requires.index at c.requires.others c.requires.runs
