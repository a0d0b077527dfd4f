-- The law is its lemma.
use Rattle.records_import.proofs.Once.{one_answer}
use Rattle.records_import.proofs.laws.rows_have_one_answer.Goals as goal

pub returns : goal.returns
returns c = one_answer
