-- A rehearsal after `count` batches.
use Rattle.std.specs.Prelude.{◌≡◌, ℕ, ◌*◌, None, take}
use Rattle.rehearsal.specs.declared.plan.Rehearsal.{Rehearsal}
use Rattle.rehearsal.specs.declared.run.Run.{Run}
use Rattle.rehearsal.specs.Draws.{state}
use Rattle.rehearsal.specs.Following.{IsAt, Follows, IsMirror}
use Rattle.rehearsal.specs.Histories.{history_of}
use Rattle.rehearsal.specs.Plan.{batches_of}
use Rattle.rehearsal.specs.Queries.{artist_query, year_query}

-- the generator, the history and the share
pub record Stands (plan : Rehearsal) (count : ℕ) (run : Run) : Type 0 where
  pub draws : run.draws.state ≡ state plan.number (3 * (count * plan.size))
  pub log : run.log.entries ≡ history_of (take count (batches_of plan))
  pub at : IsAt plan count run.store

-- the three mirrors
pub record Mirrors (plan : Rehearsal) (count : ℕ) (run : Run) : Type 0 where
  pub first : Follows plan count run.first
  pub second : Follows plan count run.second
  pub third : Follows plan count run.third
  pub everything : IsMirror 1 None run.first
  pub artists : IsMirror 3 artist_query run.second
  pub years : IsMirror 300 year_query run.third
