use Rattle.std.proofs.Common.{◌≡◌, ◌≤◌, ◌+◌, ◌*◌, length}
use Rattle.dmap_stream.proofs.Members.{Passed}
use Rattle.dmap_stream.proofs.whole_tag.+whole.Given as goal

-- a list's tags are shorter than the list, whose head is before them
abbrev pub decreases-tag_at : goal.decreases-tag_at
decreases-tag_at l = 2 * length l.bytes.now

abbrev pub decreases-members_at : goal.decreases-members_at
decreases-members_at l = 2 * length l.bytes.now + 1

abbrev pub invariant-members_at-loop-around : goal.invariant-members_at-loop-around
invariant-members_at-loop-around l = record {
  passed : Passed l.rules.table.now l.rules.top l.at l.fn.around l.bytes l.members l.here l.rest;
  same : l.around ≡ l.fn.around;
  within : l.here + length l.rest ≤ l.rules.total;
  fewer : length l.rest ≤ length l.bytes;
}

abbrev pub decreases-members_at-loop-around : goal.decreases-members_at-loop-around
decreases-members_at-loop-around l = length l.rest
