use Rattle.std.proofs.Common.{◌≡◌, ◌++◌}
use Rattle.row_sheets.specs.Sheets.{rows_in}
use Rattle.row_sheets.proofs.turning.push_cut.Given as goal

abbrev pub invariant-loop-row : goal.invariant-loop-row
invariant-loop-row l = rows_in l.turned.items ++ l.part.items ≡ rows_in l.fn.turned.items ++ l.yielded
