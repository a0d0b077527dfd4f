use Rattle.playlist_store.specs.Changes.{Everywhere, PrunesKept}
use Rattle.playlist_store.proofs.prune.prune_members.Given as goal

abbrev pub invariant-loop-member : goal.invariant-loop-member
invariant-loop-member l = Everywhere (PrunesKept l.floor) l.fn.lists.entries l.lists.entries
