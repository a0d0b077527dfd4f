use Rattle.std.proofs.Common.{◌≢◌, List, ℕ, Ok, Err, sym, subst, ap}
use Rattle.outside_net.specs.declared.reading.ReadError.{ReadError}
use Rattle.records_import.specs.Table.{table_of}
use Rattle.records_import.specs.Records.{BatchReads}
use Rattle.records_import.specs.declared.refusal.RecordError.TheVariants as records
use Rattle.command_core.specs.Seen.{InputSeen, input_seen}
use Rattle.command_core.specs.ReadRecords.{StopsReading}
use Rattle.command_core.proofs.ReadCauses.{unread_cause, records_cause}
use Rattle.command_core.proofs.records.read_records.Goals as goal

pub returns-in-Err-clause-cause : goal.returns-in-Err-clause-cause
returns-in-Err-clause-cause g c =
    let before : InputSeen = input_seen (g.I.Source.left c.args.input.now) (g.I.Faulted.faults c.args.input.now) in
    let after : InputSeen = input_seen (g.I.Source.left c.read_within.new.source) (g.I.Faulted.faults c.read_within.new.source) in
    let read = c.in-Err.ensures in
    subst (StopsReading before after) (sym c.read_fault.ensures)
    (unread_cause before after c.in-Err.error (λ is. read.failed (ap (λ (e : ReadError). Err e) is)) read.part
    (λ is. read.too_long (ap (λ (e : ReadError). Err e) is)) read.count)

pub returns-in-Ok-read_batch-clause-reads : goal.returns-in-Ok-read_batch-clause-reads
returns-in-Ok-read_batch-clause-reads g c =
    let read = c.in-Ok.ensures in
    let batch = c.in-Ok-read_batch.batch in record {
      bytes = c.in-Ok.bytes.items;
      read = read.whole;
      end = read.end;
      faultless = read.count;
      of = record { within = read.within; read = subst (λ (l : List ℕ). BatchReads (table_of l) (Ok batch)) c.as_slice.ensures.value c.in-Ok-read_batch.ensures.exact };
    }

pub returns-clause-cause : goal.returns-clause-cause
returns-clause-cause g c =
    let before : InputSeen = input_seen (g.I.Source.left c.args.input.now) (g.I.Faulted.faults c.args.input.now) in
    let after : InputSeen = input_seen (g.I.Source.left c.read_within.new.source) (g.I.Faulted.faults c.read_within.new.source) in
    let read = c.in-Ok.ensures in
    let error = c.in-Err-read_batch.error in
    subst (StopsReading before after) (sym c.record_fault.ensures)
    (records_cause before after c.in-Ok.bytes.items error read.whole read.end read.within read.count
    (subst (λ (l : List ℕ). error ≢ records.Memory → BatchReads (table_of l) (Err error)) c.as_slice.ensures.value c.in-Err-read_batch.ensures.exact))
