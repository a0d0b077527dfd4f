use Rattle.std.proofs.Common.{◌≡◌, length, map}
use Rattle.item_model.specs.Folding.{lowered}
use Rattle.song_query.specs.Glob.{joins, from_some}
use Rattle.song_query.proofs.globs.are_behind.Given as goal

-- the parts are found exactly if those left are found in the rest
abbrev pub invariant-loop-left : goal.invariant-loop-left
invariant-loop-left l =
    from_some (joins (map lowered l.pieces)) (lowered l.text) ≡ from_some (joins (map lowered l.left)) (lowered l.rest)

abbrev pub decreases-loop-left : goal.decreases-loop-left
decreases-loop-left l = length l.left
