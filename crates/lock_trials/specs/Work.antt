-- Definitions about a worker's turns, and about handles that were joined.
use Rattle.std.specs.Prelude.{◌≡◌, ℕ, zero, suc, List, [], ◌∷◌, ◌++◌}
use Rattle.share_lock.specs.Histories.{entries_of, Continues, AreApart}
use Rattle.share_lock.specs.Known.{Known, numbers_of}
use Rattle.lock_trials.specs.declared.numbers.Number.{Number}
use Rattle.lock_trials.specs.Made.{by_of}

abbrev pub Pass : Type 0
Pass = Known Number (Unit {0})

-- The numbers that a handle added, in what it has seen.
abbrev pub added_in : Pass → List Number
added_in k = entries_of by_of k.number k.seen

-- The first `n` numbers from 0, as handle `by` adds them.
abbrev pub first_numbers : ℕ → ℕ → List Number
first_numbers by zero = []
first_numbers by (suc n) = first_numbers by n ++ record { by = by; value = n } ∷ []

-- No call changes these.
pub record IsSame (before now : Pass) : Type 0 where
  pub number : now.number ≡ before.number
  pub taken_in : now.taken_in ≡ before.taken_in

-- The history begins with what the handle had seen, and has no later number of it or of a handle that was joined to
-- it.
abbrev pub IsIn : List Number → Pass → Type 0
IsIn history k = Continues by_of (numbers_of k) k.seen history

-- Two handles with no number in common.
abbrev pub Apart : Pass → Pass → Type 0
Apart j k = AreApart (numbers_of j) (numbers_of k)
