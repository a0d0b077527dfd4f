-- How a run of a command ends, by what is known before it and after it.
use Rattle.std.specs.Prelude.{◌≡◌, ◌⊎◌, ◌++◌, ℕ, List, IfSome}
use Rattle.std.specs.Io.KnownBytes.{Appends}
use Rattle.outside_net.specs.Counts.{Rose}
use Rattle.outside_net.specs.Told.{AppendsPrefix}
use Rattle.command_core.specs.declared.fault.Fault.{Fault}
use Rattle.command_core.specs.declared.outcome.Outcome.{Outcome}
use Rattle.command_core.specs.Seen.{OutputSeen, ShareSeen, Run}
use Rattle.command_core.specs.Faults.{fault_line, fault_status}
use Rattle.command_core.specs.Causes.{HasCause}
use Rattle.command_core.specs.Meanings.{Meaning, IsCause}

pub data Ending (F : Type 0) : Type 0 where
  -- the command succeeded, and its output was written
  Done : (output : List ℕ) → Ending F
  -- a write of `output` failed, perhaps after a prefix of it
  OutputCut : (output : List ℕ) → Ending F
  -- after `front`, the line of `fault` was written
  Refused : (front : List ℕ) (fault : Fault F) → Ending F
  -- a write of `front` or of the line of `fault` failed, perhaps after a prefix of the two
  LineCut : (front : List ℕ) (fault : Fault F) → Ending F

abbrev pub ending_status : (m : Meaning) → Ending m.fault → ℕ
ending_status m (Done output) = 0
ending_status m (OutputCut output) = 5
ending_status m (Refused front fault) = fault_status m.status fault
ending_status m (LineCut front fault) = 5

-- the bytes were written whole
pub record IsWritten (before after : OutputSeen) (bytes : List ℕ) : Type 0 where
  pub taken : Appends before.taken after.taken bytes
  pub faultless : after.faults ≡ before.faults

-- a write of the bytes failed, after the output took a prefix of them
pub record IsCut (before after : OutputSeen) (bytes : List ℕ) : Type 0 where
  pub taken : AppendsPrefix before.taken after.taken bytes
  pub rose : Rose before.faults after.faults

-- `fault` ends the command after it wrote `front`, and leaves `share`
pub record IsRefused (m : Meaning) (told : Run) (share : ShareSeen) (front : List ℕ) (fault : Fault m.fault) : Type 0 where
  pub cause : IsCause m told.before told.after fault
  pub left : m.leaves told.before told.after fault share
  pub written : m.is_front told.before told.after fault front

-- what is true of a run that ended in this way
abbrev pub EndsAs : (m : Meaning) → Run → ShareSeen → Ending m.fault → Type 0
EndsAs m told share (Done output) =
    m.is_done told.before told.after share output × IsWritten told.output_before told.output_after output
EndsAs m told share (OutputCut output) =
    m.is_begun told.before told.after share output × IsCut told.output_before told.output_after output
EndsAs m told share (Refused front fault) =
    IsRefused m told share front fault × IsWritten told.output_before told.output_after (front ++ fault_line m.line fault)
EndsAs m told share (LineCut front fault) =
    IsRefused m told share front fault × IsCut told.output_before told.output_after (front ++ fault_line m.line fault)

-- the run ended in one of these ways, with its status
abbrev pub HasEnding : (m : Meaning) → Run → ℕ → ShareSeen → Type 0
HasEnding m told status share = (ending : Ending m.fault) × (status ≡ ending_status m ending) × EndsAs m told share ending

-- If the input is known and no read or write failed, arguments and input decide the status, except for out of memory.
pub record DecidesStatus (m : Meaning) (input : List ℕ) (status : ℕ) : Type 0 where
  pub done : m.gives input → (status ≡ 0) ⊎ (status ≡ 9)
  pub refused : (own : m.fault) → HasCause (m.cause own) input → (status ≡ m.status own) ⊎ (status ≡ 9)

abbrev pub IsDecided : Meaning → Run → ℕ → Type 0
IsDecided m told status =
    ¬ (Rose told.before.input.faults told.after.input.faults) → ¬ (Rose told.output_before.faults told.output_after.faults)
    → IfSome told.before.input.left (λ input. DecidesStatus m input status)

-- what an outcome says of a share
abbrev pub share_of : Outcome → ShareSeen
share_of outcome = record { history = outcome.history }

-- the outcome of a run is as the command's specification says
pub record IsAnswered (m : Meaning) (told : Run) (outcome : Outcome) : Type 0 where
  pub ends : HasEnding m told outcome.status (share_of outcome)
  pub decided : IsDecided m told outcome.status
  pub always : m.always told outcome
