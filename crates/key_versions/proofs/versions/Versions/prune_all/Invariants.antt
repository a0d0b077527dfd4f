use Rattle.std.proofs.Common.{◌≡◌, ◌≤◌, ℕ}
use Rattle.key_versions.specs.Held.{value_at}
use Rattle.key_versions.proofs.versions.Versions.prune_all.Given as goal

abbrev pub invariant-loop-key : goal.invariant-loop-key
invariant-loop-key g l = (q base : ℕ) → l.low ≤ base → value_at l.self q base ≡ value_at l.fn.self q base
