-- The law is its lemma.
use Rattle.records_import.proofs.Once.{batch_same}
use Rattle.records_import.proofs.laws.rows_read_as_one_batch.Goals as goal

pub returns : goal.returns
returns c = batch_same
