use Rattle.std.proofs.Common.{◌≡◌, ◌++◌, filter}
use Rattle.share_history.specs.Histories.{batches, all_edits}
use Rattle.share_history.specs.Kept.{touches, touched}
use Rattle.reference_share.proofs.kept.touched.Given as goal

abbrev pub invariant-loop-key : goal.invariant-loop-key
invariant-loop-key l =
    l.touched.items ++ filter (touches (all_edits l.history) l.target (all_edits l.later)) l.key-iterator ≡ touched (batches l.history) l.target l.base
