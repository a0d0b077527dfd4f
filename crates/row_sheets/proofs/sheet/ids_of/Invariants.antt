use Rattle.std.proofs.Common.{◌≡◌, take}
use Rattle.row_sheets.specs.Cells.{ids_of}
use Rattle.row_sheets.proofs.sheet.ids_of.Given as goal

abbrev pub invariant-loop-row : goal.invariant-loop-row
invariant-loop-row l = l.ids.items ≡ ids_of (take l.row-index l.rows)
