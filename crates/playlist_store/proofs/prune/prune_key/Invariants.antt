use Rattle.std.proofs.Common.{length}
use Rattle.key_versions.specs.Held.{versions_at}
use Rattle.playlist_store.specs.Changes.{PrunesKept}
use Rattle.playlist_store.proofs.prune.prune_key.Given as goal

abbrev pub invariant-loop-version : goal.invariant-loop-version
invariant-loop-version l = PrunesKept l.floor l.fn.kept l.kept

abbrev pub decreases-loop-version : goal.decreases-loop-version
decreases-loop-version l = length (versions_at l.key l.kept.members)
