use Rattle.std.proofs.Common.{◌≡◌, ◌≤◌, length, take, reverse}
use Rattle.dmap_stream.specs.Walk.{open_after, first_of}
use Rattle.dmap_stream.proofs.containers.Containers.open_at.Given as goal

-- the lists further in end there
abbrev pub invariant-loop-depth : goal.invariant-loop-depth
invariant-loop-depth l =
    (l.depth ≤ length l.self-inside.outermost_first.items)
    × (first_of (open_after l.at (reverse (take l.depth l.self-inside.outermost_first.items))) ≡ first_of (open_after l.at (reverse l.self-inside.outermost_first.items)))

abbrev pub decreases-loop-depth : goal.decreases-loop-depth
decreases-loop-depth l = l.depth
