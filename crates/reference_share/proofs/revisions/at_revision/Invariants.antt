use Rattle.std.proofs.Common.{◌≡◌, ◌++◌, drop, take}
use Rattle.share_history.specs.Histories.{at_revision, until_edits}
use Rattle.reference_share.proofs.revisions.at_revision.Given as goal

-- what was skipped, and the part of the rest with as many batches as are still wanted
abbrev pub invariant-loop-place : goal.invariant-loop-place
invariant-loop-place l =
    take l.place l.history ++ until_edits l.left (drop l.place l.history) ≡ at_revision l.history l.revision
