use Rattle.std.proofs.Common.{◌≤◌, ℕ}
use Rattle.playlist_store.specs.Changes.{PrunesAll}
use Rattle.playlist_store.proofs.prune.forget_all.Given as goal

abbrev pub invariant-loop-id : goal.invariant-loop-id
invariant-loop-id l = (floor : ℕ) → floor ≤ l.before → PrunesAll floor l.before l.fn.lists.entries l.lists.entries
