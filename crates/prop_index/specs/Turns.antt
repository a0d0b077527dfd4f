-- What changes come to: for each id that they name, its row before them and after them.
use Rattle.std.specs.Prelude.{◌≡◌, ℕ, List, Option, Some, None, option_copied}
use Rattle.item_model.specs.declared.item.Row.{Row}
use Rattle.share_history.specs.Keyed.{at, IsAscending}
use Rattle.prop_index.specs.declared.changes.Turn.{Turn}
use Rattle.prop_index.specs.declared.changes.Change.{Change}
use Rattle.prop_index.specs.Library.{FitInTurn, after_all}

abbrev pub id_of : Option Row → Option Row → Option ℕ
id_of None None = None
id_of (Some old) None = Some old.id
id_of None (Some new) = Some new.id
id_of (Some old) (Some new) = Some new.id

-- the row before all changes, where the one before the last is given
abbrev pub first_of : Option Turn → Option Row → Option Row
first_of None old = old
first_of (Some turn) old = option_copied turn.old

-- an id that is named has these rows, and one that is not keeps its row
abbrev pub TurnsAs : Option Turn → Option Row → Option Row → Type 0
TurnsAs None before now = now ≡ before
TurnsAs (Some turn) before now = (before ≡ option_copied turn.old) × (now ≡ option_copied turn.new)

-- the turns lead from some rows to others
pub record TurnTo (rows now : List (ℕ × Row)) (turns : List (ℕ × Turn)) : Type 0 where
  pub ascending : IsAscending turns
  pub each : (id : ℕ) → TurnsAs (at id turns) (at id rows) (at id now)

-- some changes were taken in, and those that are left fit and lead on to the last rows
pub record Midway (rows : List (ℕ × Row)) (turns : List (ℕ × Turn)) (left : List Change) (last : List (ℕ × Row)) : Type 0 where
  pub now : List (ℕ × Row)
  pub turned : TurnTo rows now turns
  pub ascending : IsAscending now
  pub fits : FitInTurn now left
  pub leads : after_all now left ≡ last
