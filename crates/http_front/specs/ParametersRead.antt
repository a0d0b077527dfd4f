-- The result of reading a parameter, unless allocation fails.
use Rattle.std.specs.Prelude.{◌≡◌, ◌≢◌, ⊤, ℕ, List, Option, Some, None, Result, Ok, Err}
use Rattle.item_model.specs.declared.query.Query.{Query}
use Rattle.item_model.specs.declared.refusal.QueryError.TheVariants as query_fault
use Rattle.share_asks.specs.declared.ask.AskError.TheVariants as fault
use Rattle.share_asks.specs.declared.ask.Want.{Want}
use Rattle.share_asks.specs.declared.ask.Want.TheVariants as wanted
use Rattle.song_query.specs.Answers.{Answers}
use Rattle.http_front.specs.declared.parameters.Flaw.{Flaw}
use Rattle.http_front.specs.declared.parameters.Flaw.TheVariants.{Bad, Memory}

-- the value, or the error for the parameter `name`
abbrev pub ReadsAs : {A : Type 0} → List ℕ → Option A → Result A Flaw → Type 0
ReadsAs name (Some value) (Ok read) = read ≡ value
ReadsAs name None (Ok read) = ⊥
ReadsAs name (Some value) (Err (Bad error)) = ⊥
ReadsAs name None (Err (Bad error)) = error ≡ fault.Parameter name
ReadsAs name value (Err Memory) = ⊤

-- the query in the text, or its error
abbrev pub ReadsQuery : Option (List ℕ) → Result (Option Query) Flaw → Type 0
ReadsQuery None (Ok read) = read ≡ None
ReadsQuery None (Err (Bad error)) = ⊥
ReadsQuery (Some text) (Ok None) = ⊥
ReadsQuery (Some text) (Ok (Some query)) = Answers text (Ok query)
ReadsQuery (Some text) (Err (Bad (fault.Query error))) = (error ≢ query_fault.Memory) × Answers text (Err error)
ReadsQuery (Some text) (Err (Bad _)) = ⊥
ReadsQuery text (Err Memory) = ⊤

-- the operation or its error, unless allocation fails
abbrev pub Gives : (Want → Type 0) → Result Want Flaw → Type 0
Gives P (Ok want) = P want
Gives P (Err (Bad error)) = P (wanted.Bad error)
Gives P (Err Memory) = ⊤
