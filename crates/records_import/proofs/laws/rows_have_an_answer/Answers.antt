-- The law is its lemma.
use Rattle.records_import.proofs.Decided.{batch_for}
use Rattle.records_import.proofs.laws.rows_have_an_answer.Goals as goal

pub returns : goal.returns
returns c = batch_for
