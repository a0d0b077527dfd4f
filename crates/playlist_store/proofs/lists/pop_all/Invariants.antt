use Rattle.std.proofs.Common.{◌≤◌, take}
use Rattle.playlist_store.specs.Changes.{Pops}
use Rattle.playlist_store.proofs.lists.pop_all.Given as goal

abbrev pub invariant-loop-id : goal.invariant-loop-id
invariant-loop-id l = 1 ≤ l.revision → Pops l.revision (take l.id-index l.ids) l.fn.lists.entries l.lists.entries
