use Rattle.std.proofs.Common.{◌≡◌, ◌+◌, ◌≤◌, length}
use Rattle.dmap_show.specs.Parts.{pairs_in_front, behind_pairs}
use Rattle.dmap_show.proofs.pieces.split_indent.Given as goal

-- the pairs so far and those that are left are all
abbrev pub invariant-loop-left : goal.invariant-loop-left
invariant-loop-left l = record {
  pairs : l.level + pairs_in_front l.left ≡ pairs_in_front l.bytes;
  behind : behind_pairs l.left ≡ behind_pairs l.bytes;
  short : l.level + length l.left ≤ length l.bytes;
}

abbrev pub decreases-loop-left : goal.decreases-loop-left
decreases-loop-left l = length l.left
