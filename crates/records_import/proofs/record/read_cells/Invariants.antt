use Rattle.std.proofs.Common.{◌+◌, drop}
use Rattle.csv.specs.Records.{fields_of}
use Rattle.records_import.specs.Records.{IsLeftmost}
use Rattle.records_import.specs.Walk.{Walked, no_values}
use Rattle.records_import.specs.declared.refusal.RecordError.{RecordError}
use Rattle.records_import.specs.declared.values.Values.{Values}
use Rattle.records_import.proofs.record.read_cells.Given as goal

-- the values of all cells are those of the cells left after the values so far; the same for the leftmost error
abbrev pub invariant-loop-place : goal.invariant-loop-place
invariant-loop-place l = record {
  walked : (after : Values) → Walked l.action (drop l.place l.columns) (drop (l.place + 3) (fields_of l.cells)) l.values after
      → Walked l.action l.columns (drop 3 (fields_of l.cells)) no_values after;
  leftmost : (fault : RecordError) → IsLeftmost l.action l.row (l.place + 4) (drop l.place l.columns) (drop (l.place + 3) (fields_of l.cells)) fault
      → IsLeftmost l.action l.row 4 l.columns (drop 3 (fields_of l.cells)) fault;
}
