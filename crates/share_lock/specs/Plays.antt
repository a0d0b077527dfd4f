-- What each step reports to the handle that makes it.
use Rattle.std.specs.Prelude.{◌≡◌, ℕ, ◌<◌, ◌≤◌, ◌==◌, true, false, List, [], ◌∷◌, ◌++◌, All, Contains, MatchBool, length, Option, Some, None}
use Rattle.atomic_table.specs.Table.{Me, Step}
use Rattle.share_lock.specs.declared.view.View.{View}
use Rattle.share_lock.specs.Histories.{Continues}
use Rattle.share_lock.specs.Rule.{own_numbers, nothing, IsJoint}

-- A handle at the table: what it knows, and the state that it holds.
abbrev pub At : Type 0 → Type 0 → Type 0 → Type 0
At S E T = Me (Option S) (View E T)

-- It has seen all that it noted.
abbrev pub having_seen : {E T : Type 0} → View E T → View E T
having_seen v = record v { ticket = None; inside = false; seen = v.noted; looks = v.looks ++ length v.noted ∷ []; one = nothing; two = nothing }

module _ {S E T : Type 0} where
  -- The ticket is its own unless another handle drew it.
  abbrev pub drawn : Step (Option S) → At S E T → ℕ → At S E T → Type 0
  drawn st m found m' = MatchBool (found == st.first) (m' ≡ (record m.0 { ticket = Some found }, m.1)) (m' ≡ m)

  -- The number is its own unless another handle drew it. It is not a number of the handle that it was split from.
  abbrev pub numbered : Step (Option S) → At S E T → ℕ → At S E T → Type 0
  numbered st m found m' = MatchBool (found == st.first) ((m' ≡ (record m.0 { number = Some found }, m.1)) × (1 ≤ found) × ¬ (Contains m.0.avoid found)) (m' ≡ m)

  abbrev pub left : Step (Option S) → At S E T → ℕ → At S E T → Type 0
  left st m found m' = m' ≡ (having_seen m.0, [])

-- Its turn has come, and it notes the history.
abbrev pub holding : {E T : Type 0} → View E T → List E → View E T
holding v history = record v { inside = true; noted = history }

module _ {S E T : Type 0} (entries : S → List E) where
  abbrev pub stored : Step (Option S) → At S E T → ℕ → At S E T → Type 0
  stored st m found m' = (x : S) → m.1 ≡ (0, Some x) ∷ [] → m' ≡ (record m.0 { noted = entries x }, m.1)

  module _ (by : E → ℕ) (settings : S → T) where
    pub record Finds (m m' : At S E T) : Type 0 where
      pub state : S
      pub holds : m' ≡ (holding m.0 (entries state), (0, Some state) ∷ m.1)
      pub about : 1 ≤ m.0.passes → settings state ≡ m.0.settings
      pub history : Continues by (own_numbers m.0) m.0.seen (entries state)
      pub numbers : 1 ≤ m.0.passes → All (λ e. by e < m.0.passes) (entries state)

    abbrev pub entered : Step (Option S) → At S E T → ℕ → At S E T → Type 0
    entered st m found m' = (n : ℕ) → m.0.ticket ≡ Some n → MatchBool (found == n) (Finds m m') (m' ≡ m)

abbrev pub told : {S E T : Type 0} → (E → ℕ) → Step (Option S) → At S E T → ℕ → At S E T → Type 0
told by st m found m' = (m' ≡ m) × IsJoint by m.0.one m.0.two m.0.seen
