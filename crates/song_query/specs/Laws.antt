-- Theorems about all texts that follow from the definitions.
use Rattle.std.specs.Prelude.{◌≡◌, ◌≢◌, ℕ, List, Result, Err}
use Rattle.item_model.specs.QueryTree.{QueryTree}
use Rattle.item_model.specs.declared.query.Query.{Query}
use Rattle.item_model.specs.declared.refusal.QueryError.{QueryError}
use Rattle.item_model.specs.declared.refusal.QueryError.TheVariants.{Memory}
use Rattle.song_query.specs.Answers.{Answers}
use Rattle.song_query.specs.Reading.{QueryReads}

-- a text reads as at most one query
abbrev pub TextsReadOnce : Type 0
TextsReadOnce = (text : List ℕ) (q r : QueryTree) → QueryReads text q → QueryReads text r → q ≡ r

-- a text has a result other than out of memory
abbrev pub TextsHaveAnswers : Type 0
TextsHaveAnswers = (text : List ℕ) → (answer : Result Query QueryError) × (answer ≢ Err Memory) × Answers text answer

-- and no other one
abbrev pub AnswersAreOne : Type 0
AnswersAreOne = (text : List ℕ) (a b : Result Query QueryError) → a ≢ Err Memory → b ≢ Err Memory → Answers text a → Answers text b → a ≡ b
