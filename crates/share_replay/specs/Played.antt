-- The state of the machine in the code, and what an interrupted replay leaves.
use Rattle.std.specs.Prelude.{◌≡◌, ◌⊎◌, ◌<◌, ◌≤◌, ℕ, List, [], take, Option, Some, None}
use Rattle.std.specs.Io.KnownBytes.{Appends}
use Rattle.std.specs.List.{slice_get}
use Rattle.outside_net.specs.Told.{AppendsPrefix}
use Rattle.item_model.specs.declared.changes.Entry.{Entry}
use Rattle.share_replies.specs.Settings.{Settings}
use Rattle.share_replay.specs.Connections.{Connection}
use Rattle.share_replay.specs.Turns.{Due, due_on, left_on, turn_for}
use Rattle.share_replay.specs.Machine.{Desk, answers, after_delivery, line_place, most_left, output_of, script_run}
use Rattle.share_replay.specs.declared.delivery.Delivery.{Delivery}

-- ---- One connection.

-- The next answer was given.
pub record HasAnswered (s : Settings) (number : ℕ) (h : List Entry) (c : Connection) (h' : List Entry) (c' : Connection) (before now : Option (List ℕ)) : Type 0 where
  pub due : Due
  pub is_due : due_on s h c ≡ Some due
  pub history : h' ≡ (turn_for number h c due).history
  pub connection : c' ≡ (turn_for number h c due).connection
  pub written : Appends before now (turn_for number h c due).written

-- No answer was given, and nothing written.
pub record IsUntold (h h' : List Entry) (before now : Option (List ℕ)) : Type 0 where
  pub history : h' ≡ h
  pub taken : Appends before now []

-- The next answer was given, and a prefix of it written.
pub record IsHalfTold (s : Settings) (number : ℕ) (h : List Entry) (c : Connection) (h' : List Entry) (before now : Option (List ℕ)) : Type 0 where
  pub due : Due
  pub is_due : due_on s h c ≡ Some due
  pub some : 0 < left_on c
  pub history : h' ≡ (turn_for number h c due).history
  pub taken : AppendsPrefix before now (turn_for number h c due).written

abbrev pub BreaksOff : Settings → ℕ → List Entry → Connection → List Entry → Option (List ℕ) → Option (List ℕ) → Type 0
BreaksOff s number h c h' before now = IsUntold h h' before now ⊎ IsHalfTold s number h c h' before now

-- ---- The connection at an index.

pub record SlotAnswered (s : Settings) (number : ℕ) (h : List Entry) (slot : Option Connection) (h' : List Entry) (slot' : Option Connection) (before now : Option (List ℕ)) : Type 0 where
  pub old : Connection
  pub new : Connection
  pub was : slot ≡ Some old
  pub is : slot' ≡ Some new
  pub answered : HasAnswered s number h old h' new before now

pub record SlotHalfTold (s : Settings) (number : ℕ) (h : List Entry) (slot : Option Connection) (h' : List Entry) (before now : Option (List ℕ)) : Type 0 where
  pub old : Connection
  pub was : slot ≡ Some old
  pub told : IsHalfTold s number h old h' before now

abbrev pub SlotBreaksOff : Settings → ℕ → List Entry → Option Connection → List Entry → Option (List ℕ) → Option (List ℕ) → Type 0
SlotBreaksOff s number h slot h' before now = IsUntold h h' before now ⊎ SlotHalfTold s number h slot h' before now

-- ---- The machine.

-- The machine has reached `d`; `start` is the output when it began.
pub record IsAt (d : Desk) (h : List Entry) (cs : List (Option Connection)) (start now : Option (List ℕ)) : Type 0 where
  pub history : h ≡ d.history
  pub connections : cs ≡ d.connections
  pub written : Appends start now d.output

-- The same, but only a prefix of the output was written.
pub record IsPart (d : Desk) (h : List Entry) (start now : Option (List ℕ)) : Type 0 where
  pub history : h ≡ d.history
  pub taken : AppendsPrefix start now d.output

-- The machine within a line after the first `answered` answers, or at the end of the script.
abbrev pub broken_in : Settings → Desk → Option Delivery → ℕ → Desk
broken_in s d (Some line) answered = answers s (line_place line) answered (after_delivery line d)
broken_in s d None answered = record { history = d.history; connections = d.connections; output = output_of d }

abbrev pub broken_at : Settings → List Entry → List Delivery → ℕ → ℕ → Desk
broken_at s h lines line answered = broken_in s (script_run s h (take line lines)) (slice_get lines line) answered

-- The most answers within the line.
abbrev pub most_answers : Desk → Option Delivery → ℕ
most_answers d (Some line) = most_left (after_delivery line d).connections
most_answers d None = 0

-- The share has the history of the machine after some of its answers, and a prefix of their output was written.
pub record IsBrokenOff (s : Settings) (h : List Entry) (lines : List Delivery) (h' : List Entry) (before now : Option (List ℕ)) : Type 0 where
  pub line : ℕ
  pub answered : ℕ
  pub few : answered ≤ most_answers (script_run s h (take line lines)) (slice_get lines line)
  pub part : IsPart (broken_at s h lines line answered) h' before now
