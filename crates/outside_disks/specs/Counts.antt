-- An error counter. It never decreases. An error increases it until it is at the maximum of its type; a success
-- leaves it.
use Rattle.std.specs.Prelude.{◌≡◌, ℕ, ◌+◌, ◌-◌, ◌^◌, ◌<◌, ◌≤◌, min, Result, MatchResult}

-- The counter has not decreased, and it increased or is at the maximum of its type.
abbrev pub Rose : ℕ → ℕ → Type 0
Rose before now = (before ≤ now) × (min (before + 1) (2 ^ 64 - 1) ≤ now)

-- A success leaves the counter unchanged, and an error increased it.
abbrev pub CountsFaults : {T E : Type 0} → ℕ → ℕ → Result T E → Type 0
CountsFaults before now result = MatchResult result (λ _. now ≡ before) (λ _. Rose before now)

-- The counter increases exactly if an error was counted on the object that is returned.
pub record RisesWith (before now given : ℕ) : Type 0 where
  pub faultless : given ≡ 0 → now ≡ before
  pub faulty : 0 < given → Rose before now
