use Rattle.std.proofs.Common.{◌≡◌, ◌≤◌, ◌+◌, ◌++◌, length, vec_len, vec_capacity}
use Rattle.mirror_core.specs.Changes.{merged}
use Rattle.mirror_core.proofs.merging.merge.Given as goal

abbrev pub invariant-loop-row : goal.invariant-loop-row
invariant-loop-row l = record {
  rows : l.out.items ++ merged l.held.items l.changes.entries ≡ l.fn.out.items ++ merged l.fn.held.items l.fn.changes.entries;
  room : vec_len l.out + (length l.held.items + length l.changes.entries) ≤ vec_capacity l.out;
}

abbrev pub decreases-loop-row : goal.decreases-loop-row
decreases-loop-row l = length l.held.items
