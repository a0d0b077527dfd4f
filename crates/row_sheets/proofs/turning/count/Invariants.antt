use Rattle.std.proofs.Common.{◌≡◌, length, take}
use Rattle.row_sheets.specs.Sheets.{rows_in}
use Rattle.row_sheets.proofs.turning.count.Given as goal

abbrev pub invariant-loop-sheet : goal.invariant-loop-sheet
invariant-loop-sheet l = l.count ≡ length (rows_in (take l.sheet-index l.sheets))
