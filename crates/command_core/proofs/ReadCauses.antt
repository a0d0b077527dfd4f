-- Why an input is not read as a batch of records.
use Rattle.std.proofs.Common.{Vec, Global, ◌≡◌, ◌≢◌, ◌+◌, ◌<◌, ◌≤◌, ℕ, List, length, Err, IfSome, refl}
use Rattle.std.specs.Io.KnownBytes.{Consumes, IsAtEnd}
use Rattle.outside_net.specs.Reading.{ConsumesUpTo, CountsReadFaults}
use Rattle.outside_net.specs.declared.reading.ReadError.{ReadError}
use Rattle.outside_net.specs.declared.reading.ReadError.TheVariants as reads
use Rattle.records_import.specs.Table.{table_of}
use Rattle.records_import.specs.Records.{BatchReads}
use Rattle.records_import.specs.declared.refusal.RecordError.{RecordError}
use Rattle.records_import.specs.declared.refusal.RecordError.TheVariants as records
use Rattle.command_core.specs.declared.fault.Fault.TheVariants.{Own}
use Rattle.command_core.specs.Seen.{InputSeen}
use Rattle.command_core.proofs.Reading.{all_read_on, past_limit, failed_within, of_input}
use Rattle.command_core.specs.declared.records.InputFault.TheVariants.{Records, TooLong}
use Rattle.command_core.specs.ReadRecords.{records_limit, IsWithin, IsRefused, StopsReading, record_fault}
use Rattle.command_core.specs.Faults.{read_fault}

pub unread_cause : (before after : InputSeen) (e : ReadError) → (e ≡ reads.Failed → ConsumesUpTo records_limit before.left after.left)
    → ConsumesUpTo (records_limit + 32768) before.left after.left → (e ≡ reads.TooLong → IfSome before.left (λ input. records_limit < length input))
    → CountsReadFaults {T = Vec ℕ Global} before.faults after.faults (Err e) → StopsReading before after (read_fault TooLong e)
unread_cause before after reads.Failed failed some long count = failed_within IsWithin before after records_limit (λ bytes within. within) (failed refl) count
unread_cause before after reads.TooLong failed some long count = record {
  words = tt;
  said = long refl;
  faultless = count;
  read_on = past_limit IsWithin before after records_limit (λ bytes within. within) some;
}
unread_cause before after reads.Memory failed some long count = tt

-- records that are refused
refused_as : (before after : InputSeen) (bytes : List ℕ) (e : RecordError) → Consumes before.left after.left bytes → IsAtEnd after.left
    → length bytes ≤ records_limit → after.faults ≡ before.faults → e ≢ records.Memory → BatchReads (table_of bytes) (Err e) → StopsReading before after (Own (Records e))
refused_as before after bytes e read end within faultless known refused = record {
  words = known;
  said = of_input (IsRefused e) before.left after.left bytes read end (record { within = within; refused = refused });
  faultless = faultless;
  read_on = all_read_on IsWithin before after bytes read within;
}

pub records_cause : (before after : InputSeen) (bytes : List ℕ) (e : RecordError) → Consumes before.left after.left bytes → IsAtEnd after.left
    → length bytes ≤ records_limit → after.faults ≡ before.faults → (e ≢ records.Memory → BatchReads (table_of bytes) (Err e)) → StopsReading before after (record_fault e)
records_cause before after bytes (records.Header column) read end within faultless refused =
    let known = λ (is : records.Header column ≡ records.Memory). absurd (cc) in refused_as before after bytes (records.Header column) read end within faultless known (refused known)
records_cause before after bytes (records.Field row column why) read end within faultless refused =
    let known = λ (is : records.Field row column why ≡ records.Memory). absurd (cc) in refused_as before after bytes (records.Field row column why) read end within faultless known (refused known)
records_cause before after bytes (records.Length row) read end within faultless refused =
    let known = λ (is : records.Length row ≡ records.Memory). absurd (cc) in refused_as before after bytes (records.Length row) read end within faultless known (refused known)
records_cause before after bytes (records.TooMany row) read end within faultless refused =
    let known = λ (is : records.TooMany row ≡ records.Memory). absurd (cc) in refused_as before after bytes (records.TooMany row) read end within faultless known (refused known)
records_cause before after bytes records.Memory read end within faultless refused = tt
