-- The command `replay`: plays a script to a new share and writes what the share answers; or reports the first error of
-- the input: its length, or its first bad line.
use Rattle.std.specs.Prelude.{◌≡◌, ◌<◌, ◌≤◌, ◌⊎◌, ◌++◌, ◌∷◌, [], ℕ, List, length, take, Err, Option, MatchOption, codes, decimal}
use Rattle.item_model.specs.declared.changes.Entry.{Entry}
use Rattle.share_replies.specs.Answers.{Shared}
use Rattle.share_replies.specs.Settings.{Settings}
use Rattle.share_replay.specs.Machine.{script_bytes, script_history}
use Rattle.share_replay.specs.Played.{broken_at}
use Rattle.share_replay.specs.Scripts.{script_of}
use Rattle.share_replay.specs.declared.delivery.Delivery.{Delivery}
use Rattle.command_core.specs.declared.fault.Fault.{Fault}
use Rattle.command_core.specs.declared.fault.Fault.TheVariants as fault
use Rattle.command_core.specs.declared.outcome.Outcome.{Outcome}
use Rattle.command_core.specs.Answers.{WritesError}
use Rattle.command_core.specs.Seen.{InputSeen, Seen, ShareSeen, Run, no_share, share_with}
use Rattle.command_core.specs.Causes.{Cause, OfInput}
use Rattle.command_core.specs.Meanings.{Meaning, may_read}
use Rattle.share_commands.specs.Moments.{IsOfOneMoment}
use Rattle.share_commands.specs.ReadScript.{IsRead, ReadsAs, script_limit}
use Rattle.share_commands.specs.declared.replay.ReplayFault.{ReplayFault}
use Rattle.share_commands.specs.declared.replay.ReplayFault.TheVariants.{TooLong, Line}

abbrev pub settings_of : (keep : ℕ) → (name : List ℕ) → Settings
settings_of keep name = record { name = name; keep = keep }

-- a share that nothing has changed, and that no session has read
abbrev pub new_share : (keep : ℕ) → (name : List ℕ) → Shared
new_share keep name = record { settings = settings_of keep name; history = []; marks = [] }

-- the input is within its limit, and `line` is its first that is not a line of a script
pub record IsBad (line : ℕ) (input : List ℕ) : Type 0 where
  pub within : length input ≤ script_limit
  pub bad : script_of input ≡ Err line

-- the script was played to a new share, which has this history, and the output is what the share answered
pub record IsPlayed (keep : ℕ) (name : List ℕ) (before after : InputSeen) (share : ShareSeen) (output : List ℕ) : Type 0 where
  pub lines : List Delivery
  pub read : IsRead lines before after
  pub opened : share ≡ share_with (script_history (settings_of keep name) [] lines)
  pub written : output ≡ script_bytes (settings_of keep name) [] lines

-- it was played in part: the share has the history of the replay after some of its answers
pub record IsBegun (keep : ℕ) (name : List ℕ) (lines : List Delivery) (before after : InputSeen) (share : ShareSeen) : Type 0 where
  pub read : IsRead lines before after
  pub line : ℕ
  pub answered : ℕ
  pub opened : share ≡ share_with (broken_at (settings_of keep name) [] lines line answered).history

-- the output that was to be written if the output failed
pub record IsWriting (keep : ℕ) (name : List ℕ) (before after : InputSeen) (share : ShareSeen) (output : List ℕ) : Type 0 where
  pub lines : List Delivery
  pub begun : IsBegun keep name lines before after share
  pub written : output ≡ script_bytes (settings_of keep name) [] lines

-- a prefix of what the share answers to the script
pub record IsFront (keep : ℕ) (name : List ℕ) (before after : InputSeen) (front : List ℕ) : Type 0 where
  pub lines : List Delivery
  pub read : IsRead lines before after
  pub count : ℕ
  pub written : front ≡ take count (script_bytes (settings_of keep name) [] lines)

-- once the share is open, only an allocation may fail
abbrev pub ReplayLeaves : (keep : ℕ) → (name : List ℕ) → Seen → Seen → Fault ReplayFault → ShareSeen → Type 0
ReplayLeaves keep name before after (fault.Own own) share = share ≡ no_share
ReplayLeaves keep name before after fault.Read share = share ≡ no_share
ReplayLeaves keep name before after fault.Memory share =
    (share ≡ no_share) ⊎ ((lines : List Delivery) × IsBegun keep name lines before.input after.input share)

abbrev pub ReplayWrote : (keep : ℕ) → (name : List ℕ) → Seen → Seen → Fault ReplayFault → List ℕ → Type 0
ReplayWrote keep name before after (fault.Own own) front = front ≡ []
ReplayWrote keep name before after fault.Read front = front ≡ []
ReplayWrote keep name before after fault.Memory front = (front ≡ []) ⊎ IsFront keep name before.input after.input front

abbrev pub replay_line : ReplayFault → List ℕ
replay_line TooLong = codes "limit: input" ++ 10 ∷ []
replay_line (Line line) = codes "script: line " ++ decimal line ++ 10 ∷ []

abbrev pub replay_status : ReplayFault → ℕ
replay_status TooLong = 8
replay_status (Line line) = 3

abbrev pub replay_cause : ReplayFault → Cause
replay_cause TooLong = OfInput (Unit {0}) (λ input. script_limit < length input)
replay_cause (Line line) = OfInput (Unit {0}) (IsBad line)

abbrev pub ReplayReadsOn : List ℕ → Type 0
ReplayReadsOn bytes = length bytes ≤ script_limit

-- an input that is a script
pub record IsScript (input : List ℕ) : Type 0 where
  pub lines : List Delivery
  pub reads : ReadsAs lines input

-- What is left is of one moment of the replay. If no share was opened, only the line of an error was written.
abbrev pub LeavesMoment : Settings → Run → Outcome → (history : Option (List Entry)) → Type 0
LeavesMoment s told outcome history =
    MatchOption history ((fault : Fault ReplayFault) × WritesError replay_line replay_status fault told.output_before told.output_after outcome)
    (λ h. IsOfOneMoment s told.before.input told.after.input told.output_before told.output_after outcome.status h)

abbrev pub replay_meaning : (keep : ℕ) → (name : List ℕ) → Meaning
replay_meaning keep name = record {
  fault = ReplayFault;
  line = replay_line;
  status = replay_status;
  cause = replay_cause;
  reads_on = ReplayReadsOn;
  gives = IsScript;
  is_done = λ before after share output. IsPlayed keep name before.input after.input share output;
  is_begun = λ before after share output. IsWriting keep name before.input after.input share output;
  is_front = ReplayWrote keep name;
  leaves = ReplayLeaves keep name;
  may_want = may_read;
  always = λ told outcome. LeavesMoment (settings_of keep name) told outcome outcome.history;
}
