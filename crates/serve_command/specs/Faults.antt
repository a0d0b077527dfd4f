-- Errors of `serve`, before its share is served: an address that is not opened, an input that is too long, records that
-- are refused, and a batch that leaves too many lists.
use Rattle.std.specs.Prelude.{◌≢◌, ◌<◌, ◌++◌, ◌∷◌, [], ℕ, List, length, codes}
use Rattle.records_import.specs.declared.refusal.RecordError.TheVariants as records
use Rattle.outside_net.specs.declared.net.NetError.{NetError}
use Rattle.outside_net.specs.declared.net.NetError.TheVariants as nets
use Rattle.fault_lines.specs.Records.{records_line}
use Rattle.share_core.specs.declared.share.OpenError.{OpenError}
use Rattle.share_core.specs.declared.share.OpenError.TheVariants as opens
use Rattle.command_core.specs.declared.fault.Fault.{Fault}
use Rattle.command_core.specs.declared.fault.Fault.TheVariants as fault
use Rattle.command_core.specs.Seen.{InputSeen}
use Rattle.command_core.specs.Causes.{Cause, OfWords, OfInput, StopsBy}
use Rattle.command_core.specs.declared.records.InputFault.{InputFault}
use Rattle.command_core.specs.declared.records.InputFault.TheVariants as unread
use Rattle.command_core.specs.ReadRecords.{records_limit, IsWithin, IsRefused, LeavesMany}
use Rattle.serve_command.specs.declared.fault.ServeFault.{ServeFault}
use Rattle.serve_command.specs.declared.fault.ServeFault.TheVariants.{Network, TooLong, Records, TooManyLists}

abbrev pub serve_line : ServeFault → List ℕ
serve_line Network = codes "network failed" ++ 10 ∷ []
serve_line TooLong = codes "limit: input" ++ 10 ∷ []
serve_line (Records error) = records_line error
serve_line TooManyLists = codes "limit: library" ++ 10 ∷ []

abbrev pub serve_status : ServeFault → ℕ
serve_status Network = 6
serve_status TooLong = 8
serve_status (Records error) = 3
serve_status TooManyLists = 8

-- `failed` says whether the network's error counter rose
abbrev pub serve_cause : (failed : Type 0) → ServeFault → Cause
serve_cause failed Network = OfWords failed
serve_cause failed TooLong = OfInput (Unit {0}) (λ input. records_limit < length input)
serve_cause failed (Records error) = OfInput (error ≢ records.Memory) (IsRefused error)
serve_cause failed TooManyLists = OfInput (Unit {0}) LeavesMany

-- why `serve` stops before its share is served; an allocation may fail at any time
abbrev pub StopsServing : (failed : Type 0) → InputSeen → InputSeen → Fault ServeFault → Type 0
StopsServing failed before after stop = StopsBy (serve_cause failed) IsWithin (Unit {0}) before after stop

-- the errors of `serve` if an address, the input or the share is refused
abbrev pub net_fault : NetError → Fault ServeFault
net_fault nets.Failed = fault.Own Network
net_fault nets.Memory = fault.Memory

abbrev pub input_fault : Fault InputFault → Fault ServeFault
input_fault (fault.Own unread.TooLong) = fault.Own TooLong
input_fault (fault.Own (unread.Records error)) = fault.Own (Records error)
input_fault fault.Read = fault.Read
input_fault fault.Memory = fault.Memory

abbrev pub open_fault : OpenError → Fault ServeFault
open_fault opens.Lists = fault.Own TooManyLists
open_fault opens.Edits = fault.Own TooManyLists
open_fault opens.Memory = fault.Memory
