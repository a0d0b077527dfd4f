use Rattle.std.proofs.Common.{◌≡◌, ◌≤◌, ℕ, drop}
use Rattle.key_versions.specs.Held.{value_at}
use Rattle.item_store.proofs.batches.prune_to.Given as goal

abbrev pub invariant-loop-passed : goal.invariant-loop-passed
invariant-loop-passed l = record {
  named : l.named.items ≡ drop l.passed l.fn.named.items;
  rows : (q base : ℕ) → l.floor ≤ base → value_at l.held q base ≡ value_at l.fn.held q base;
}
