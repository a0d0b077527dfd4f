-- Which texts read as a query, and at which offset another text is stuck.
use Rattle.std.specs.Prelude.{◌≡◌, ◌≤◌, ℕ, List, ◌++◌, length, take, true}
use Rattle.item_model.specs.QueryTree.{QueryTree, or_of}
use Rattle.song_query.specs.Grammar.{QueryForm, print_query, is_or, joined, members}

-- the text is printed from a form whose meaning is the query
pub record QueryReads (text : List ℕ) (query : QueryTree) : Type 0 where
  pub form : QueryForm
  pub valid : is_or form.body ≡ true
  pub spelled : text ≡ print_query form
  pub means : query ≡ joined or_of (members form.body)

-- the text does not read as any query
abbrev pub HasNoReading : List ℕ → Type 0
HasNoReading text = (query : QueryTree) → ¬ (QueryReads text query)

-- some text that reads as a query begins with these bytes
pub record Begins (bytes : List ℕ) : Type 0 where
  pub more : List ℕ
  pub query : QueryTree
  pub reads : QueryReads (bytes ++ more) query

-- the text up to `place` is its longest prefix with which a query begins
pub record IsStuck (text : List ℕ) (place : ℕ) : Type 0 where
  pub within : place ≤ length text
  pub begins : Begins (take place text)
  pub longest : (n : ℕ) → n ≤ length text → Begins (take n text) → n ≤ place
