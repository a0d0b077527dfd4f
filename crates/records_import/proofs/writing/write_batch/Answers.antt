use Rattle.std.proofs.Common.{Ok, ◌≡◌, ◌∙◌, sym, subst}
use Rattle.records_import.specs.Records.{BatchReads}
use Rattle.records_import.specs.Table.{table_of, table_text}
use Rattle.records_import.specs.Written.{written_rows}
use Rattle.records_import.proofs.Once.{one_answer}
use Rattle.records_import.proofs.writing.write_batch.Goals as goal

-- what is written reads back as the batch
back : (c : goal.After-from) → (c.from.result ≡ table_text (written_rows c.args.batch.now)) × BatchReads (table_of c.from.result) (Ok c.args.batch.now)
back c =
    let text = c.from.ensures ∙ c.in_ok-written_text.ensures (table_text (written_rows c.args.batch.now)) (c.in_ok-write_edits.ensures.written c.table_writer-writer.ensures) in
    (text, subst (λ text. BatchReads (table_of text) (Ok c.args.batch.now)) (sym text) c.in_ok-write_edits.ensures.reads_back)

pub returns-clause-text : goal.returns-clause-text
returns-clause-text c = (back c).0

pub returns-clause-reads_back : goal.returns-clause-reads_back
returns-clause-reads_back c = (back c).1

pub returns-clause-only : goal.returns-clause-only
returns-clause-only c answer reads = one_answer (table_of c.from.result) answer (Ok c.args.batch.now) reads (back c).1
