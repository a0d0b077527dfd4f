-- Why a command that reads its whole input stops.
use Rattle.std.proofs.Common.{Vec, Global, ◌≡◌, ◌≤◌, ◌<◌, ◌+◌, ℕ, List, length, Err, IfSome, refl, arith}
use Rattle.std.specs.Io.KnownBytes.{Consumes, IsAtEnd}
use Rattle.outside_net.specs.Counts.{Rose}
use Rattle.outside_net.specs.Reading.{ConsumesUpTo, CountsReadFaults}
use Rattle.outside_net.specs.declared.reading.ReadError.{ReadError}
use Rattle.outside_net.specs.declared.reading.ReadError.TheVariants as reads
use Rattle.command_core.specs.declared.fault.Fault.{Fault}
use Rattle.command_core.specs.declared.fault.Fault.TheVariants as fault
use Rattle.command_core.specs.Seen.{InputSeen}
use Rattle.command_core.specs.Causes.{IsFaultOf, IsReadFault}
use Rattle.command_core.proofs.Reading.{all_read_on, past_limit, failed_within, of_input}
use Rattle.command_core.specs.Faults.{read_fault}
use Rattle.tag_commands.specs.declared.tags_fault.TagsFault.{TagsFault}
use Rattle.tag_commands.specs.declared.tags_fault.TagsFault.TheVariants as tags
use Rattle.json_commands.specs.declared.json_back.LineFault.{LineFault}
use Rattle.json_commands.specs.declared.json_back.LineFault.TheVariants.{Line, TooLong}
use Rattle.json_commands.specs.Whole.{json_limit, IsWithin, IsTooLong}
use Rattle.json_commands.specs.Json as json
use Rattle.json_commands.specs.JsonBack as lines

-- a read failed within the limit
failed : (before after : InputSeen) → ConsumesUpTo json_limit before.left after.left → Rose before.faults after.faults → IsReadFault IsWithin before after
failed before after some rose = failed_within IsWithin before after json_limit (λ bytes within. within) some rose

-- the input is longer than it may be
passed : (before after : InputSeen) → ConsumesUpTo (json_limit + 32768) before.left after.left → IfSome before.left IsTooLong → after.faults ≡ before.faults
    → IsFaultOf IsWithin (Unit {0}) IsTooLong before after
passed before after some long count = record { words = tt; said = long; faultless = count; read_on = past_limit IsWithin before after json_limit (λ bytes within. within) some }

-- its bytes are refused
refused : (words : Type 0) (P : List ℕ → Type 0) (before after : InputSeen) (bytes : List ℕ) → words → P bytes → Consumes before.left after.left bytes → IsAtEnd after.left
    → IsWithin bytes → after.faults ≡ before.faults → IsFaultOf IsWithin words P before after
refused words P before after bytes w said read end within faultless = record {
  words = w;
  said = of_input P before.left after.left bytes read end said;
  faultless = faultless;
  read_on = all_read_on IsWithin before after bytes read within;
}

pub json_unread : (before after : InputSeen) (e : ReadError) → (e ≡ reads.Failed → ConsumesUpTo json_limit before.left after.left)
    → ConsumesUpTo (json_limit + 32768) before.left after.left → (e ≡ reads.TooLong → IfSome before.left (λ input. json_limit < length input))
    → CountsReadFaults {T = Vec ℕ Global} before.faults after.faults (Err e) → json.StopsJson before after (read_fault tags.TooLong e)
json_unread before after reads.Failed few some long count = failed before after (few refl) count
json_unread before after reads.TooLong few some long count = passed before after some (long refl) count
json_unread before after reads.Memory few some long count = tt

pub lines_unread : (before after : InputSeen) (e : ReadError) → (e ≡ reads.Failed → ConsumesUpTo json_limit before.left after.left)
    → ConsumesUpTo (json_limit + 32768) before.left after.left → (e ≡ reads.TooLong → IfSome before.left (λ input. json_limit < length input))
    → CountsReadFaults {T = Vec ℕ Global} before.faults after.faults (Err e) → lines.StopsBack before after (read_fault TooLong e)
lines_unread before after reads.Failed few some long count = failed before after (few refl) count
lines_unread before after reads.TooLong few some long count = passed before after some (long refl) count
lines_unread before after reads.Memory few some long count = tt

pub json_refused : (before after : InputSeen) (bytes : List ℕ) (f : Fault TagsFault) → Consumes before.left after.left bytes → IsAtEnd after.left → IsWithin bytes
    → after.faults ≡ before.faults → json.IsTagsFault bytes f → json.StopsJson before after f
json_refused before after bytes (fault.Own (tags.Broken error)) read end within faultless h =
    refused _ (json.IsBroken error) before after bytes h.0 (record { within = within; broken = h.1 }) read end within faultless
json_refused before after bytes (fault.Own tags.TooLong) read end within faultless h = absurd h
json_refused before after bytes fault.Read read end within faultless h = absurd h
json_refused before after bytes fault.Memory read end within faultless h = tt

from_one : (line : ℕ) (text : List ℕ) → lines.StopsOn line text → 1 ≤ line
from_one line text h = let is : line ≡ h.0 + 1 = h.1.0 in omega arith

pub lines_refused : (before after : InputSeen) (bytes : List ℕ) (f : Fault LineFault) → Consumes before.left after.left bytes → IsAtEnd after.left → IsWithin bytes
    → after.faults ≡ before.faults → lines.IsLinesFault bytes f → lines.StopsBack before after f
lines_refused before after bytes (fault.Own (Line line)) read end within faultless h =
    refused _ (lines.IsRefused line) before after bytes (from_one line bytes h) (record { within = within; stops = h }) read end within faultless
lines_refused before after bytes (fault.Own TooLong) read end within faultless h = absurd h
lines_refused before after bytes fault.Read read end within faultless h = absurd h
lines_refused before after bytes fault.Memory read end within faultless h = tt
