use Rattle.std.proofs.Common.{◌≡◌, ◌+◌, length, drop}
use Rattle.share_history.specs.Histories.{edits}
use Rattle.share_history.specs.Numbers.{most_edits}
use Rattle.share_core.proofs.share.have_few_edits.Given as goal

-- as many may be left as the batches so far leave
abbrev pub invariant-loop-batch : goal.invariant-loop-batch
invariant-loop-batch l = length (edits (drop l.batch-index l.batches)) + most_edits ≡ length (edits l.batches) + l.left
