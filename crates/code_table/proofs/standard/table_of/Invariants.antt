use Rattle.std.proofs.Common.{◌≡◌, map, take}
use Rattle.code_table.specs.Rows.{row_of}
use Rattle.code_table.proofs.standard.table_of.Given as goal

abbrev pub invariant-loop-row : goal.invariant-loop-row
invariant-loop-row l = l.table ≡ map row_of (take l.row-index l.rows)
