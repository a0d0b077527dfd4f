use Rattle.song_query.proofs.Folded.{glob_is_Glob}
use Rattle.song_query.proofs.matching.matches.Goals as goal

pub returns-clause-globs : goal.returns-clause-globs
returns-clause-globs g c = glob_is_Glob
