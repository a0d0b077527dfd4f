use Rattle.std.proofs.Common.{◌≡◌, ◌≤◌, ◌-◌, ◌∷◌, ℕ, length, min}
use Rattle.key_versions.specs.Found.{found}
use Rattle.key_versions.proofs.steps.step_back.Given as goal

abbrev pub invariant-loop-newest : goal.invariant-loop-newest
invariant-loop-newest g l = 1 ≤ l.revision → (base : ℕ) → found (l.newest ∷ l.older.items) (min base (l.revision - 1)) ≡ found (l.fn.newest ∷ l.fn.older.items) (min base (l.revision - 1))

abbrev pub decreases-loop-newest : goal.decreases-loop-newest
decreases-loop-newest g l = length l.older.items
