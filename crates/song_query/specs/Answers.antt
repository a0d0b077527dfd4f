-- The result of reading a text: the query that it reads as within the limits, otherwise the offset and the cause.
use Rattle.std.specs.Prelude.{◌≡◌, ◌≢◌, ◌≤◌, ◌<◌, ◌+◌, ⊤, ℕ, List, length, take, Result, Ok, Err}
use Rattle.item_model.specs.QueryTree.{QueryTree}
use Rattle.item_model.specs.QuerySeen.{tree_of}
use Rattle.item_model.specs.declared.query.Query.{Query}
use Rattle.item_model.specs.declared.refusal.QueryError.{QueryError}
use Rattle.item_model.specs.declared.refusal.QueryError.TheVariants.{TooLong, TooDeep, At, Memory}
use Rattle.item_model.specs.declared.refusal.QueryWhy.{QueryWhy}
use Rattle.item_model.specs.declared.refusal.QueryWhy.TheVariants.{End, Byte}
use Rattle.song_query.specs.Reading.{QueryReads, HasNoReading, Begins, IsStuck}
use Rattle.song_query.specs.Nesting.{open_at_end}
use Rattle.song_query.specs.Limits.{query_bytes, open_parentheses}

-- at each offset up to `place` no more parentheses are open than the limit allows
abbrev pub IsShallow : List ℕ → ℕ → Type 0
IsShallow text place = (n : ℕ) → n ≤ place → open_at_end (take n text) ≤ open_parentheses

-- the byte there is the first parenthesis too many, and some query continues with it
pub record IsTooDeep (text : List ℕ) (place : ℕ) : Type 0 where
  pub within : place < length text
  pub begins : Begins (take (place + 1) text)
  pub deep : open_parentheses < open_at_end (take (place + 1) text)
  pub first : IsShallow text place

abbrev pub IsRefusedAt : List ℕ → ℕ → QueryWhy → Type 0
IsRefusedAt text place End = (place ≡ length text) × HasNoReading text
IsRefusedAt text place Byte = place ≢ length text

abbrev pub Answers : List ℕ → Result Query QueryError → Type 0
Answers text (Ok query) = (length text ≤ query_bytes) × QueryReads text (tree_of query) × IsShallow text (length text)
Answers text (Err TooLong) = query_bytes < length text
Answers text (Err (TooDeep place)) = (length text ≤ query_bytes) × IsTooDeep text place
Answers text (Err (At place why)) = (length text ≤ query_bytes) × IsStuck text place × IsRefusedAt text place why × IsShallow text place
Answers text (Err Memory) = ⊤

-- the query is returned, if allocation succeeds
abbrev pub Gives : QueryTree → Result Query QueryError → Type 0
Gives query (Ok read) = tree_of read ≡ query
Gives query (Err TooLong) = ⊥
Gives query (Err (TooDeep place)) = ⊥
Gives query (Err (At place why)) = ⊥
Gives query (Err Memory) = ⊤

-- each query that the text reads as within the limits is returned
abbrev pub IsComplete : List ℕ → Result Query QueryError → Type 0
IsComplete text result =
    (query : QueryTree) → QueryReads text query → length text ≤ query_bytes → IsShallow text (length text) → Gives query result
