use Rattle.std.proofs.Common.{◌≡◌, ◌+◌, ◌≤◌, length}
use Rattle.dmap_show.specs.TextLines.{first_lines, behind_lines}
use Rattle.dmap_show.specs.Follows.{Follows}
use Rattle.dmap_show.proofs.reading.read_lines.Given as goal

-- the draft follows from the lines so far
abbrev pub invariant-loop-left : goal.invariant-loop-left
invariant-loop-left l = record {
  left : l.left ≡ behind_lines l.line l.text;
  count : l.line + length l.left ≤ length l.text;
  follows : Follows l.table (first_lines l.line l.text) l.draft.around l.draft.here;
}

abbrev pub decreases-loop-left : goal.decreases-loop-left
decreases-loop-left l = length l.left
