use Rattle.std.proofs.Common.{◌≡◌, take}
use Rattle.code_table.proofs.table.CodeTable.copy.Given as goal

abbrev pub invariant-loop-row : goal.invariant-loop-row
invariant-loop-row l = l.table ≡ take l.row-index l.rows
