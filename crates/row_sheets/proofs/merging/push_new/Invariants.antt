use Rattle.std.proofs.Common.{◌≡◌, ◌++◌, take}
use Rattle.row_sheets.specs.Changes.{new_rows}
use Rattle.row_sheets.proofs.merging.push_new.Given as goal

abbrev pub invariant-loop-change : goal.invariant-loop-change
invariant-loop-change l = l.merged.items ≡ l.fn.merged.items ++ new_rows (take l.change-index l.changes)
