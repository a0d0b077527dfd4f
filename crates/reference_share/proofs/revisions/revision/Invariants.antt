use Rattle.std.proofs.Common.{◌≡◌, ◌+◌, drop, length}
use Rattle.share_history.specs.Histories.{batches, revision}
use Rattle.reference_share.proofs.revisions.revision.Given as goal

abbrev pub invariant-loop-entry : goal.invariant-loop-entry
invariant-loop-entry l = l.revision + length (batches (drop l.entry-index l.history)) ≡ revision (batches l.history)
