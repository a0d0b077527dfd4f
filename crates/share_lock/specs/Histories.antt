-- Definitions about a history and the numbers under which its entries were made.
use Rattle.std.specs.Prelude.{◌≡◌, ℕ, ◌==◌, List, ◌++◌, All, Contains, filter, length, nat_le, if◌then◌else◌}

module _ {E : Type 0} where
  -- The entries that were made under number `n`.
  abbrev pub entries_of : (E → ℕ) → ℕ → List E → List E
  entries_of by n es = filter (λ e. by e == n) es

  -- No entry was made under one of the numbers.
  abbrev pub NoneOf : (E → ℕ) → List ℕ → List E → Type 0
  NoneOf by numbers es = All (λ e. ¬ (Contains numbers (by e))) es

  -- The history begins with what was seen, and no later entry has one of the numbers. So it has the same entries of
  -- each of the numbers as what was seen.
  pub record Continues (by : E → ℕ) (numbers : List ℕ) (seen history : List E) : Type 0 where
    pub more : List E
    pub begins : history ≡ seen ++ more
    pub later : NoneOf by numbers more
    pub own : (n : ℕ) → Contains numbers n → entries_of by n history ≡ entries_of by n seen

  -- Only entries of number `n` were appended.
  abbrev pub Adds : (E → ℕ) → ℕ → List E → List E → Type 0
  Adds by n before after = (more : List E) × (after ≡ before ++ more) × All (λ e. by e ≡ n) more

  -- So the entries of number `n` are those before, and then what was appended.
  abbrev pub AddsOwn : (E → ℕ) → ℕ → List E → List E → Type 0
  AddsOwn by n before after = (more : List E) → after ≡ before ++ more → entries_of by n after ≡ entries_of by n before ++ more

  -- The longer of two lists; the second if both are equally long.
  abbrev pub longer : List E → List E → List E
  longer xs ys = if nat_le (length xs) (length ys) then ys else xs

-- The two have no number in common.
abbrev pub AreApart : List ℕ → List ℕ → Type 0
AreApart xs ys = (n : ℕ) → Contains xs n → Contains ys n → ⊥
