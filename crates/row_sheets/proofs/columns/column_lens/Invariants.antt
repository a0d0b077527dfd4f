use Rattle.std.proofs.Common.{◌≡◌, map, take}
use Rattle.row_sheets.specs.Cells.{column_length}
use Rattle.row_sheets.proofs.columns.column_lens.Given as goal

abbrev pub invariant-loop-index : goal.invariant-loop-index
invariant-loop-index l = l.lens.items ≡ map (column_length l.rows) (take l.index l.properties)
