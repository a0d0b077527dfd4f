-- Rows by whether their ids are held.
use Rattle.std.specs.Prelude.{◌≡◌, ℕ, true, None, is_some}
use Rattle.std.specs.List.{AllByRecursion}
use Rattle.share_history.specs.Keyed.{at, IsAscending}
use Rattle.relayed_rows.specs.Libraries.{Library}

-- ascending rows whose ids are not held
pub record AreFresh (held rows : Library) : Type 0 where
  pub held_ascends : IsAscending held
  pub rows_ascend : IsAscending rows
  pub apart : (id : ℕ) → is_some (at id rows) ≡ true → at id held ≡ None

-- each row's id is held
abbrev pub AreHeld : Library → Library → Type 0
AreHeld held rows = AllByRecursion (λ e. is_some (at e.0 held) ≡ true) rows
