use Rattle.std.proofs.Common.{◌≡◌, ◌≤◌, drop}
use Rattle.playlist_store.specs.Changes.{PrunesAll}
use Rattle.playlist_store.proofs.prune.prune_to.Given as goal

abbrev pub invariant-loop-passed : goal.invariant-loop-passed
invariant-loop-passed l = record {
  named : l.named.items ≡ drop l.passed l.fn.named.items;
  lists : l.floor ≤ l.before → PrunesAll l.floor l.before l.fn.lists.entries l.lists.entries;
}
