-- The law is its lemma.
use Rattle.song_query.proofs.Decided.{answer_for}
use Rattle.song_query.proofs.laws.a_text_has_an_answer.Goals as goal

pub returns : goal.returns
returns c = answer_for
