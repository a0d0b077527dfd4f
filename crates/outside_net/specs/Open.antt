-- How many listeners and connections of a network are open.
use Rattle.std.specs.Prelude.{◌≡◌, ℕ, ◌+◌, ◌-◌, Result, MatchResult}

-- If the call succeeded, `more` more are open.
abbrev pub Opens : {T E : Type 0} → ℕ → ℕ → ℕ → Result T E → Type 0
Opens before now more result = MatchResult result (λ _. now ≡ before + more) (λ _. now ≡ before)

-- One less is open.
abbrev pub Closes : ℕ → ℕ → Type 0
Closes before now = now ≡ before - 1
