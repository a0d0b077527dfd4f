use Rattle.std.proofs.Common.{◌-◌, ◌^◌}
use Rattle.key_versions.specs.Held.{behind}
use Rattle.playlist_store.specs.Changes.{Everywhere, PrunesKept}
use Rattle.playlist_store.proofs.prune.prune_items.Given as goal

abbrev pub invariant-loop-id : goal.invariant-loop-id
invariant-loop-id l = Everywhere (PrunesKept l.floor) l.fn.lists.entries l.lists.entries

abbrev pub decreases-loop-id : goal.decreases-loop-id
decreases-loop-id l = 2 ^ 32 - behind l.last
