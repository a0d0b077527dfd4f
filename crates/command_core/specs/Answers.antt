-- What a command wrote at its end, and what its outcome says.
use Rattle.std.specs.Prelude.{◌≡◌, ◌⊎◌, ℕ, List, Option, None}
use Rattle.item_model.specs.declared.changes.Entry.{Entry}
use Rattle.command_core.specs.declared.fault.Fault.{Fault}
use Rattle.command_core.specs.declared.outcome.Outcome.{Outcome}
use Rattle.command_core.specs.Seen.{OutputSeen}
use Rattle.command_core.specs.Faults.{memory_line, fault_line, fault_status}
use Rattle.command_core.specs.Endings.{IsWritten, IsCut}

-- the output has all of `bytes` and the status is `wanted`, or the output failed within them
abbrev pub Writes : ℕ → List ℕ → OutputSeen → OutputSeen → ℕ → Type 0
Writes wanted bytes before after status = ((status ≡ wanted) × IsWritten before after bytes) ⊎ ((status ≡ 5) × IsCut before after bytes)

-- ends of a command that succeeded, with the history of its share
pub record WritesDone (opened : Option (List Entry)) (bytes : List ℕ) (before after : OutputSeen) (outcome : Outcome) : Type 0 where
  pub history : outcome.history ≡ opened
  pub told : Writes 0 bytes before after outcome.status

-- ends of a command that is out of memory
pub record WritesMemory (opened : Option (List Entry)) (before after : OutputSeen) (outcome : Outcome) : Type 0 where
  pub history : outcome.history ≡ opened
  pub told : Writes 9 memory_line before after outcome.status

-- ends of a command with an error; an allocation for its line may fail
pub record WritesError {F : Type 0} (line : F → List ℕ) (status : F → ℕ) (fault : Fault F) (before after : OutputSeen) (outcome : Outcome) : Type 0 where
  pub unopened : outcome.history ≡ None
  pub told : Writes (fault_status status fault) (fault_line line fault) before after outcome.status ⊎ Writes 9 memory_line before after outcome.status
