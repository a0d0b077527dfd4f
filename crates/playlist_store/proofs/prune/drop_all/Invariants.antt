use Rattle.std.proofs.Common.{◌≤◌, ℕ}
use Rattle.playlist_store.specs.Changes.{PrunesAll}
use Rattle.playlist_store.proofs.prune.drop_all.Given as goal

abbrev pub invariant-loop-id : goal.invariant-loop-id
invariant-loop-id l = (before : ℕ) → l.floor ≤ before → PrunesAll l.floor before l.fn.lists.entries l.lists.entries
