use Rattle.std.proofs.Common.{◌≡◌, drop}
use Rattle.code_table.specs.Rows.{first_named}
use Rattle.code_table.proofs.table.CodeTable.by_name.Given as goal

-- the result for the rows left is the result for all
abbrev pub invariant-loop-row : goal.invariant-loop-row
invariant-loop-row l = first_named l.name (drop l.row-index l.row-items) ≡ first_named l.name l.row-items
