-- What `replay` leaves once it opened a share: the history, the count of answered requests and what the output took are
-- of one moment of the replay.
use Rattle.std.specs.Prelude.{◌≡◌, ◌⊎◌, ℕ, List, []}
use Rattle.outside_net.specs.Told.{AppendsPrefix}
use Rattle.item_model.specs.declared.changes.Entry.{Entry}
use Rattle.share_replies.specs.Settings.{Settings}
use Rattle.share_replay.specs.Machine.{script_bytes, script_history}
use Rattle.share_replay.specs.Played.{IsBrokenOff}
use Rattle.share_replay.specs.declared.delivery.Delivery.{Delivery}
use Rattle.command_core.specs.Answers.{Writes}
use Rattle.command_core.specs.Endings.{IsCut, IsWritten}
use Rattle.command_core.specs.Faults.{memory_line}
use Rattle.command_core.specs.Seen.{InputSeen, OutputSeen}
use Rattle.share_commands.specs.ReadScript.{IsRead}

-- the whole script was played, and the output took all that the share answered
pub record EndsWhole (s : Settings) (lines : List Delivery) (before after : OutputSeen) (status : ℕ) (history : List Entry) : Type 0 where
  pub done : status ≡ 0
  pub left : history ≡ script_history s [] lines
  pub written : IsWritten before after (script_bytes s [] lines)

-- the output failed at one moment, and took a prefix of what was answered by then
pub record EndsCut (s : Settings) (lines : List Delivery) (before after : OutputSeen) (status : ℕ) (history : List Entry) : Type 0 where
  pub failed : status ≡ 5
  pub moment : IsBrokenOff s [] lines history before.taken after.taken
  pub cut : IsCut before after (script_bytes s [] lines)

-- an allocation failed at one moment; the line of that follows what the output took by then
pub record EndsWanting (s : Settings) (lines : List Delivery) (before after : OutputSeen) (status : ℕ) (history : List Entry) : Type 0 where
  pub mid : OutputSeen
  pub moment : IsBrokenOff s [] lines history before.taken mid.taken
  pub front : AppendsPrefix before.taken mid.taken (script_bytes s [] lines)
  pub faultless : mid.faults ≡ before.faults
  pub line : Writes 9 memory_line mid after status

-- a replay of these lines to a new share ended in one of these ways
abbrev pub EndsPlay : Settings → List Delivery → OutputSeen → OutputSeen → (status : ℕ) → (history : List Entry) → Type 0
EndsPlay s lines before after status history =
    EndsWhole s lines before after status history ⊎ (EndsCut s lines before after status history ⊎ EndsWanting s lines before after status history)

-- the lines are the script that the input was read as
pub record IsOfOneMoment (s : Settings) (input input' : InputSeen) (before after : OutputSeen) (status : ℕ) (history : List Entry) : Type 0 where
  pub lines : List Delivery
  pub read : IsRead lines input input'
  pub ends : EndsPlay s lines before after status history
