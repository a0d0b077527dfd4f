-- Why a share is not served, by its input.
use Rattle.std.proofs.Common.{◌≡◌, false, List, [], refl}
use Rattle.item_model.specs.declared.changes.Edit.{Edit}
use Rattle.share_history.specs.Limits.{has_few_lists}
use Rattle.share_core.specs.declared.share.OpenError.{OpenError}
use Rattle.share_core.specs.declared.share.OpenError.TheVariants as opens
use Rattle.command_core.specs.declared.fault.Fault.{Fault}
use Rattle.command_core.specs.declared.fault.Fault.TheVariants.{Own, Read, Memory}
use Rattle.command_core.specs.Seen.{InputSeen}
use Rattle.command_core.proofs.Reading.{all_read_on, of_input}
use Rattle.command_core.specs.declared.records.InputFault.{InputFault}
use Rattle.command_core.specs.declared.records.InputFault.TheVariants as unread
use Rattle.command_core.specs.ReadRecords.{HasReadAs, IsWithin, LeavesMany, StopsReading}
use Rattle.serve_command.specs.declared.fault.ServeFault.TheVariants.{TooManyLists}
use Rattle.serve_command.specs.Faults.{StopsServing, input_fault, open_fault}

-- an input that is not a batch
pub unread_cause : (before after : InputSeen) (stop : Fault InputFault) → StopsReading before after stop → StopsServing ⊥ before after (input_fault stop)
unread_cause before after (Own unread.TooLong) cause = cause
unread_cause before after (Own (unread.Records error)) cause = cause
unread_cause before after Read cause = cause
unread_cause before after Memory cause = cause

-- .. which is not refused for its lists
pub unread_alone : (T : Type 0) (stop : Fault InputFault) → input_fault stop ≡ Own TooManyLists → T
unread_alone T (Own unread.TooLong) is = absurd (cc)
unread_alone T (Own (unread.Records error)) is = absurd (cc)
unread_alone T Read is = absurd (cc)
unread_alone T Memory is = absurd (cc)

-- a batch that leaves too many lists, or for whose share an allocation fails
pub open_cause : (before after : InputSeen) (edits : List Edit) (e : OpenError) → HasReadAs edits before after → (e ≡ opens.Lists → has_few_lists [] edits ≡ false) → ¬ (e ≡ opens.Edits)
    → StopsServing ⊥ before after (open_fault e)
open_cause before after edits opens.Lists read many other = record {
  words = tt;
  said = of_input LeavesMany before.left after.left read.bytes read.read read.end (record { edits = edits; reads = read.of; many = many refl });
  faultless = read.faultless;
  read_on = all_read_on IsWithin before after read.bytes read.read read.of.within;
}
open_cause before after edits opens.Edits read many other = absurd (other refl)
open_cause before after edits opens.Memory read many other = tt
