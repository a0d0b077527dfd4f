use Rattle.playlist_store.specs.Changes.{PrunesKept}
use Rattle.playlist_store.proofs.prune.prune_keys.Given as goal

abbrev pub invariant-loop-key : goal.invariant-loop-key
invariant-loop-key l = PrunesKept l.floor l.fn.kept l.kept
