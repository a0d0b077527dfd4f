use Rattle.std.proofs.Common.{◌≡◌, ◌≤◌, drop}
use Rattle.dmap_tags.specs.Tree.{trees_of, size_of, sizes_of}
use Rattle.dmap_tags.specs.Spelling.{longest}
use Rattle.dmap_tags.proofs.Lengths.{length_from}
use Rattle.dmap_tags.proofs.spelling.+payload_len.Given as goal

abbrev pub decreases-payload_len : goal.decreases-payload_len
decreases-payload_len l = size_of l.tag.now

abbrev pub decreases-members_len : goal.decreases-members_len
decreases-members_len l = sizes_of (trees_of l.tags.now)

-- the length so far and that of the members left make the length of all
abbrev pub invariant-members_len-loop-tag : goal.invariant-members_len-loop-tag
invariant-members_len-loop-tag l = record {
  sum : length_from l.total (trees_of (drop l.tag-index l.tags)) ≡ length_from 0 (trees_of l.tags);
  within : l.total ≤ longest;
}
