use Rattle.std.proofs.Common.{◌≡◌, ◌-◌, drop}
use Rattle.share_history.specs.Numbers.{first_revision}
use Rattle.share_history.specs.Histories.{batches}
use Rattle.reference_share.proofs.revisions.after.Given as goal

abbrev pub invariant-loop-place : goal.invariant-loop-place
invariant-loop-place l =
    drop l.left (batches (drop l.place l.history)) ≡ drop (l.revision - first_revision) (batches l.history)
