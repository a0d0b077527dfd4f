-- The counts that a register keeps of its history, and the capacity that it keeps reserved.
use Rattle.std.specs.Prelude.{◌≡◌, ℕ, ◌≤◌, List, Bool, length, count_by}
use Rattle.item_model.specs.declared.changes.Entry.{Entry}
use Rattle.share_history.specs.Histories.{all_edits}
use Rattle.share_history.specs.Limits.{is_limited}
use Rattle.share_history.specs.Marks.{Marks}
use Rattle.share_history.specs.Numbers.{most_entries, most_edits}
use Rattle.share_history.specs.Sessions.{is_login, is_stopped}
use Rattle.share_register.specs.Registers.{AreMarks, HasRoom}

pub record AreCounts (h : List Entry) (limited edits logins : ℕ) (stopped : Bool) : Type 0 where
  pub limited_are : limited ≡ count_by is_limited h
  pub edits_are : edits ≡ length (all_edits h)
  pub logins_are : logins ≡ count_by is_login h
  pub stopped_is : stopped ≡ is_stopped h
  pub few_limited : limited ≤ most_entries
  pub few_edits : edits ≤ most_edits

-- the invariant: counts, last-answered lengths and spare capacity fit the history
pub record IsSound (h : List Entry) (limited edits logins : ℕ) (stopped : Bool) (marks : Marks) (spare : ℕ) : Type 0 where
  pub counts : AreCounts h limited edits logins stopped
  pub marks_are : AreMarks h marks
  pub room : HasRoom h marks spare
