-- A register as contracts see it: the history of a share, the last-answered lengths of its live sessions, and the
-- spare capacity for entries.
use Rattle.std.specs.Prelude.{◌≡◌, ℕ, ◌+◌, ◌≤◌, List, true, false, Some, is_some, length}
use Rattle.item_model.specs.declared.changes.Entry.{Entry}
use Rattle.share_history.specs.Keyed.{IsAscending, at}
use Rattle.share_history.specs.Marks.{Marks, until_login, is_orderly}
use Rattle.share_history.specs.Sessions.{is_live, is_stopped}

pub record Register : Type 0 where
  pub history : List Entry
  pub marks : Marks
  pub spare : ℕ

-- exactly the live sessions have a last-answered length, which lies between the length at the session's login and the
-- history's
pub record AreMarks (h : List Entry) (marks : Marks) : Type 0 where
  pub orderly : is_orderly 1 h ≡ true
  pub ascending : IsAscending marks
  pub live : (id : ℕ) → is_some (at id marks) ≡ is_live h id
  pub since : (id p : ℕ) → at id marks ≡ Some p → length (until_login id h) ≤ p
  pub until : (id p : ℕ) → at id marks ≡ Some p → p ≤ length h

-- there is capacity for a logout of each live session and for the stop
abbrev pub HasRoom : List Entry → Marks → ℕ → Type 0
HasRoom h marks spare = is_stopped h ≡ false → length marks + 1 ≤ spare
