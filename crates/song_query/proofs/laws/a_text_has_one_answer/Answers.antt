-- The law is its lemma.
use Rattle.song_query.proofs.Once.{one_answer}
use Rattle.song_query.proofs.laws.a_text_has_one_answer.Goals as goal

pub returns : goal.returns
returns c = one_answer
