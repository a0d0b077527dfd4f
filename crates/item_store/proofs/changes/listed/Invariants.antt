use Rattle.std.proofs.Common.{◌≡◌, ◌++◌}
use Rattle.item_store.proofs.changes.listed.Given as goal

abbrev pub invariant-loop-change : goal.invariant-loop-change
invariant-loop-change l = l.list.items ++ l.change-iterator ≡ l.fn.changes.entries
