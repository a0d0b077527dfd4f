use Rattle.std.proofs.Common.{◌≡◌, ◌≤◌, ◌+◌, ◌++◌, length, vec_len, vec_capacity}
use Rattle.mirror_core.specs.Changes.{changed}
use Rattle.mirror_core.proofs.merging.push_rest.Given as goal

abbrev pub invariant-loop-out : goal.invariant-loop-out
invariant-loop-out l = record {
  rows : l.out.items ++ changed l.changes.entries ≡ l.fn.out.items ++ changed l.fn.changes.entries;
  room : vec_len l.out + length l.changes.entries ≤ vec_capacity l.out;
}

abbrev pub decreases-loop-out : goal.decreases-loop-out
decreases-loop-out l = length l.changes.entries
