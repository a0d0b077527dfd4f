use Rattle.std.proofs.Common.{None}
use Rattle.rehearsal.specs.Queries.{artist_query, year_query}
use Rattle.rehearsal.proofs.RunFacts.{both_ok}
use Rattle.rehearsal.proofs.run.Run.follow.Goals as goal

pub returns-clause-mirrors : goal.returns-clause-mirrors
returns-clause-mirrors c =
    both_ok c.after_batch-3.result
    (λ follows mirror. record {
      first = c.in_ok-after_batch.ensures.follows;
      second = c.in_ok-after_batch-2.ensures.follows;
      third = follows;
      everything = c.in_ok-after_batch.ensures.mirror 1 None c.requires.mirrors.everything;
      artists = c.in_ok-after_batch-2.ensures.mirror 3 artist_query c.requires.mirrors.artists;
      years = mirror 300 year_query c.requires.mirrors.years;
    })
    c.after_batch-3.ensures.follows c.after_batch-3.ensures.mirror
