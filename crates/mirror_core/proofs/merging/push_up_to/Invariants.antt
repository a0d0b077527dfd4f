use Rattle.std.proofs.Common.{◌≡◌, ◌≤◌, ◌+◌, ◌++◌, ℕ, List, length, vec_len, vec_capacity}
use Rattle.dmap_tags.specs.Tree.{Tree}
use Rattle.mirror_core.specs.Changes.{Change, past_row}
use Rattle.mirror_core.proofs.merging.push_up_to.Given as goal

abbrev pub invariant-loop-out : goal.invariant-loop-out
invariant-loop-out l = record {
  rows : (tag : Tree) (rest : List Change → List (ℕ × Tree)) → l.out.items ++ past_row (l.key, tag) rest l.changes.entries ≡ l.fn.out.items ++ past_row (l.key, tag) rest l.fn.changes.entries;
  room : vec_len l.out + length l.changes.entries ≤ vec_len l.fn.out + length l.fn.changes.entries;
  capacity : vec_capacity l.out ≡ vec_capacity l.fn.out;
}

abbrev pub decreases-loop-out : goal.decreases-loop-out
decreases-loop-out l = length l.changes.entries
