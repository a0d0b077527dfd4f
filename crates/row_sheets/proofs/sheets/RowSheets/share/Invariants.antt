use Rattle.std.proofs.Common.{◌≡◌, take}
use Rattle.row_sheets.specs.Sheets.{rows_in}
use Rattle.row_sheets.proofs.sheets.RowSheets.share.Given as goal

abbrev pub invariant-loop-sheet : goal.invariant-loop-sheet
invariant-loop-sheet l = rows_in l.sheets.items ≡ rows_in (take l.sheet-index l.sheet-items)
