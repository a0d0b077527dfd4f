-- How far changes are applied. Rows and changes are gone through in ascending order of their ids: below a bound each id
-- has its row in what is done, and from the bound on what is left of the changes and the rows decides.
use Rattle.std.specs.Prelude.{◌≡◌, ℕ, ◌≤◌, ◌<◌, List, Option, None}
use Rattle.item_model.specs.declared.item.Row.{Row}
use Rattle.share_history.specs.Keyed.{at, IsAscending}
use Rattle.row_sheets.specs.Changes.{changed, AreChanges}

-- no pair has a key from the bound on
abbrev pub AreUnder : {A : Type 0} → ℕ → List (ℕ × A) → Type 0
AreUnder bound pairs = (id : ℕ) → bound ≤ id → at id pairs ≡ None

-- no pair has a key below the bound
abbrev pub AreAbove : {A : Type 0} → ℕ → List (ℕ × A) → Type 0
AreAbove bound pairs = (id : ℕ) → id < bound → at id pairs ≡ None

-- `wanted` has the row of each id after all changes
pub record IsTurned (wanted : ℕ → Option Row) (done : List (ℕ × Row)) (changes : List (ℕ × Option Row)) (rows : List (ℕ × Row)) : Type 0 where
  pub bound : ℕ
  pub ascending : IsAscending done
  pub under : AreUnder bound done
  pub changes_are : AreChanges changes
  pub changes_above : AreAbove bound changes
  pub rows_ascend : IsAscending rows
  pub rows_above : AreAbove bound rows
  pub before : (id : ℕ) → id < bound → wanted id ≡ at id done
  pub after : (id : ℕ) → bound ≤ id → wanted id ≡ changed changes rows id

-- all changes are applied
pub record AreTurned (wanted : ℕ → Option Row) (done : List (ℕ × Row)) : Type 0 where
  pub ascending : IsAscending done
  pub each : (id : ℕ) → at id done ≡ wanted id
