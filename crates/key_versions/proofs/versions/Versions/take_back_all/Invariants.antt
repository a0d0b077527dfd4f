use Rattle.std.proofs.Common.{◌≡◌, ◌≤◌, ◌-◌, ℕ, take, min, cond}
use Rattle.key_versions.specs.Held.{value_at, is_among}
use Rattle.key_versions.proofs.versions.Versions.take_back_all.Given as goal

abbrev pub invariant-loop-key : goal.invariant-loop-key
invariant-loop-key g l = 1 ≤ l.revision → (q base : ℕ) → value_at l.self q base ≡ value_at l.fn.self q (cond (is_among q (take l.key-index l.keys)) (min base (l.revision - 1)) base)
