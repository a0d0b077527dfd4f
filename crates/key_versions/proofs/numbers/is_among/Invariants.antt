use Rattle.std.proofs.Common.{◌≡◌, ℕ, Some, drop}
use Rattle.key_versions.specs.Found.{value_in}
use Rattle.key_versions.proofs.numbers.is_among.Given as goal

abbrev pub invariant-loop-index : goal.invariant-loop-index
invariant-loop-index l = (base : ℕ) → value_in l.versions.items base ≡ Some l.number → value_in (drop l.index l.versions.items) base ≡ Some l.number
