use Rattle.song_query.proofs.ReadLaws.{answers_complete, answers_proper}
use Rattle.song_query.proofs.reading.read.Goals as goal

pub returns-clause-complete : goal.returns-clause-complete
returns-clause-complete c = answers_complete _ _ c.read_short.ensures

pub returns-clause-proper : goal.returns-clause-proper
returns-clause-proper c = answers_proper _ _ c.read_short.ensures
