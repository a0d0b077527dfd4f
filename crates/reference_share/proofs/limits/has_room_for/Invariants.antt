use Rattle.std.proofs.Common.{◌≡◌, ◌+◌, drop, length}
use Rattle.share_history.specs.Numbers.{most_edits}
use Rattle.share_history.specs.Histories.{all_edits}
use Rattle.reference_share.proofs.limits.has_room_for.Given as goal

abbrev pub invariant-loop-entry : goal.invariant-loop-entry
invariant-loop-entry l = l.left + length (all_edits l.history) + l.count ≡ most_edits + length (all_edits (drop l.entry-index l.history))
