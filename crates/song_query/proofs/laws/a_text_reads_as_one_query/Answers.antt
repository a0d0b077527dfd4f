-- The law is its lemma.
use Rattle.song_query.proofs.MachineLaws.{one_reading}
use Rattle.song_query.proofs.laws.a_text_reads_as_one_query.Goals as goal

pub returns : goal.returns
returns c = one_reading
