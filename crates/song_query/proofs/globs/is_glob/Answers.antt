use Rattle.std.proofs.Common.{rules}
use Rattle.song_query.proofs.Folded.{searched_is_glob, searched_decides}
use Rattle.song_query.proofs.globs.is_glob.Goals as goal

pub returns-clause-joined : goal.returns-clause-joined
returns-clause-joined c = λ text h. searched_decides _ _ _ _ h (search rules)

pub returns-clause-test : goal.returns-clause-test
returns-clause-test c = λ text h. searched_is_glob _ _ _ _ h (search rules)
