use Rattle.std.proofs.Common.{Some, map, take}
use Rattle.csv.specs.Records.{fields_of}
use Rattle.records_import.specs.Table.{table_text}
use Rattle.records_import.specs.Writing.{HasWritten}
use Rattle.records_import.proofs.table_text.write_rows.Given as goal

-- the rows so far are written
abbrev pub invariant-loop-row : goal.invariant-loop-row
invariant-loop-row l = HasWritten (λ v. Some v.items) l.writer (table_text (map fields_of (take l.row-index l.rows)))
