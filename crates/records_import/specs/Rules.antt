-- What the text of a rule reads as: a query, or the error of reading a query.
use Rattle.std.specs.Prelude.{◌≢◌, ℕ, List, Result, Err}
use Rattle.item_model.specs.declared.query.Query.{Query}
use Rattle.item_model.specs.declared.refusal.QueryError.{QueryError}
use Rattle.item_model.specs.declared.refusal.QueryError.TheVariants.{Memory}
use Rattle.song_query.specs.Answers.{Answers}

abbrev pub RuleReads : List ℕ → Result Query QueryError → Type 0
RuleReads text answer = (answer ≢ Err Memory) × Answers text answer
