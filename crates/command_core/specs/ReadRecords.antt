-- The records on the input of a command: the input is read to its end as one batch, or it is too long, or its records
-- are refused.
use Rattle.std.specs.Prelude.{◌≡◌, ◌≢◌, ◌<◌, ◌≤◌, [], ℕ, List, length, Ok, Err, false}
use Rattle.std.specs.Io.KnownBytes.{Consumes, IsAtEnd}
use Rattle.item_model.specs.declared.changes.Edit.{Edit}
use Rattle.share_history.specs.Limits.{has_few_lists}
use Rattle.records_import.specs.Table.{table_of}
use Rattle.records_import.specs.Records.{BatchReads}
use Rattle.records_import.specs.declared.refusal.RecordError.{RecordError}
use Rattle.records_import.specs.declared.refusal.RecordError.TheVariants as records
use Rattle.command_core.specs.declared.fault.Fault.{Fault}
use Rattle.command_core.specs.declared.fault.Fault.TheVariants as fault
use Rattle.command_core.specs.Seen.{InputSeen}
use Rattle.command_core.specs.Causes.{Cause, OfInput, StopsBy}
use Rattle.command_core.specs.declared.records.InputFault.{InputFault}
use Rattle.command_core.specs.declared.records.InputFault.TheVariants.{TooLong, Records}

-- the input may have at most 4 MiB
abbrev pub records_limit : ℕ
records_limit = 4194304

abbrev pub IsWithin : List ℕ → Type 0
IsWithin bytes = length bytes ≤ records_limit

-- the input, within its limit, reads as the batch of these edits
pub record ReadsAs (edits : List Edit) (input : List ℕ) : Type 0 where
  pub within : length input ≤ records_limit
  pub read : BatchReads (table_of input) (Ok edits)

-- the input is within its limit, and its records are refused with `error`
pub record IsRefused (error : RecordError) (input : List ℕ) : Type 0 where
  pub within : length input ≤ records_limit
  pub refused : BatchReads (table_of input) (Err error)

-- its records leave more lists than a share may have
pub record LeavesMany (input : List ℕ) : Type 0 where
  pub edits : List Edit
  pub reads : ReadsAs edits input
  pub many : has_few_lists [] edits ≡ false

-- the input was read to its end, without an error, as that batch
pub record HasReadAs (edits : List Edit) (before after : InputSeen) : Type 0 where
  pub bytes : List ℕ
  pub read : Consumes before.left after.left bytes
  pub end : IsAtEnd after.left
  pub faultless : after.faults ≡ before.faults
  pub of : ReadsAs edits bytes

abbrev pub input_cause : InputFault → Cause
input_cause TooLong = OfInput (Unit {0}) (λ input. records_limit < length input)
input_cause (Records error) = OfInput (error ≢ records.Memory) (IsRefused error)

-- why reading stops; an allocation may fail at any time
abbrev pub StopsReading : InputSeen → InputSeen → Fault InputFault → Type 0
StopsReading before after stop = StopsBy input_cause IsWithin (Unit {0}) before after stop

-- the command's error if its records are refused
abbrev pub record_fault : RecordError → Fault InputFault
record_fault (records.Header column) = fault.Own (Records (records.Header column))
record_fault (records.Field row column reason) = fault.Own (Records (records.Field row column reason))
record_fault (records.Length row) = fault.Own (Records (records.Length row))
record_fault (records.TooMany row) = fault.Own (Records (records.TooMany row))
record_fault records.Memory = fault.Memory
