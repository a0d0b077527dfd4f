use Rattle.std.proofs.Common.{◌+◌, List, Result, drop, map}
use Rattle.csv.specs.Records.{fields_of}
use Rattle.item_model.specs.declared.changes.Edit.{Edit}
use Rattle.records_import.specs.Records.{RecordsAnswer}
use Rattle.records_import.specs.declared.refusal.RecordError.{RecordError}
use Rattle.records_import.proofs.Answering.{behind}
use Rattle.records_import.proofs.batch.read_records.Given as goal

-- the result of all records is that of the records left, after the edits so far
abbrev pub invariant-loop-place : goal.invariant-loop-place
invariant-loop-place l =
    (answer : Result (List Edit) RecordError) → RecordsAnswer l.columns (l.place + 1) (map fields_of (drop l.place l.records)) answer
    → RecordsAnswer l.columns 1 (map fields_of l.records) (behind l.edits answer)
