use Rattle.std.proofs.Common.{[], Some, take}
use Rattle.records_import.specs.Table.{table_text}
use Rattle.records_import.specs.Writing.{HasWritten}
use Rattle.records_import.specs.Written.{written_rows}
use Rattle.records_import.proofs.Texts.{AreTexts}
use Rattle.records_import.proofs.writing.write_edits.Given as goal

-- the records so far are written, and their cells are texts
abbrev pub invariant-loop-edit : goal.invariant-loop-edit
invariant-loop-edit l = record {
  written : HasWritten (λ v. Some v.items) l.fn.writer [] → HasWritten (λ v. Some v.items) l.writer (table_text (written_rows (take l.edit-index l.fn.batch)));
  texts : AreTexts (take l.edit-index l.fn.batch);
}
