use Rattle.std.proofs.Common.{Global, Some, Vec, ℕ}
use Rattle.csv.specs.Records.{fields_of}
use Rattle.records_import.proofs.Written.{row_written}
use Rattle.records_import.proofs.table_text.write_row.Goals as goal
use Rattle.records_import.proofs.table_text.write_row.Goals.{in-Err, in-Ok}

pub returns : goal.returns
returns c text had = elim c.match-write_byte_record.branch [
  | in-Ok w ↦
      let told = w.in-Ok.ensures in
      rw w.result-is (row_written (λ (v : Vec ℕ Global). Some v.items) c.args.writer.now c.write_byte_record.new.self text (fields_of c.args.row.now) had told.bytes told.ended told.clean told.setup)
  | in-Err w ↦ rw w.result-is tt
]
