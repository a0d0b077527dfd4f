use Rattle.std.proofs.Common.{◌≤◌, ℕ}
use Rattle.playlist_store.specs.Changes.{PrunesAll}
use Rattle.playlist_store.proofs.prune.forget_last.Given as goal

abbrev pub invariant-loop-index : goal.invariant-loop-index
invariant-loop-index l = (floor : ℕ) → floor ≤ l.before → PrunesAll floor l.before l.fn.lists.entries l.lists.entries
