use Rattle.records_import.proofs.writing.write_edit.Goals as goal

pub returns-clause-written : goal.returns-clause-written
returns-clause-written c text had = rw c.in_ok-row.ensures.cells at (c.write_row.ensures text had)
