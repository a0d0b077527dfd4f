use Rattle.records_import.proofs.writing.write_header.Goals as goal

pub returns : goal.returns
returns c text had = rw c.in_ok-header.ensures at (c.write_row.ensures text had)
