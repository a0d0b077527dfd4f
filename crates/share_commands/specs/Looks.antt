-- What `list` shows, by the texts of its arguments.
use Rattle.std.specs.Prelude.{◌≡◌, ◌≢◌, ℕ, List, Option, Some, None, Ok, Err}
use Rattle.item_model.specs.Names.{meta_of}
use Rattle.item_model.specs.declared.query.Query.{Query}
use Rattle.item_model.specs.declared.refusal.QueryError.{QueryError}
use Rattle.item_model.specs.declared.refusal.QueryError.TheVariants.{Memory}
use Rattle.item_model.specs.declared.request.Look.{Look}
use Rattle.item_model.specs.declared.request.Meta.{Meta}
use Rattle.item_model.specs.declared.request.Meta.TheVariants.{Default}
use Rattle.item_model.specs.declared.request.Range.TheVariants.{All}
use Rattle.song_query.specs.Answers.{Answers}

-- the query of a text; without a text, none
abbrev pub AsksQuery : Option (List ℕ) → Option Query → Type 0
AsksQuery None None = Unit {0}
AsksQuery None (Some query) = ⊥
AsksQuery (Some text) None = ⊥
AsksQuery (Some text) (Some query) = Answers text (Ok query)

-- the properties that a text names; without a text, the default ones
abbrev pub meta_or_default : Option (List ℕ) → Option Meta
meta_or_default None = Some Default
meta_or_default (Some text) = meta_of text

-- the texts are read as this look, at all rows
pub record AsksLook (query_text meta_text : Option (List ℕ)) (look : Look) : Type 0 where
  pub query : AsksQuery query_text look.query
  pub meta : meta_or_default meta_text ≡ Some look.meta
  pub base : look.base ≡ 0
  pub range : look.range ≡ All

-- both texts are read
abbrev pub IsAsked : Option (List ℕ) → Option (List ℕ) → Type 0
IsAsked query meta = (look : Look) × AsksLook query meta look

abbrev pub HasRefusal : Option (List ℕ) → QueryError → Type 0
HasRefusal None error = ⊥
HasRefusal (Some text) error = Answers text (Err error)

-- the query's text is refused with `error`
pub record IsQueryRefused (query : Option (List ℕ)) (error : QueryError) : Type 0 where
  pub cause : error ≢ Memory
  pub refused : HasRefusal query error

-- the query's text is read, and the other one has too many names
pub record IsMetaRefused (query meta : Option (List ℕ)) : Type 0 where
  pub asked : Option Query
  pub read : AsksQuery query asked
  pub many : meta_or_default meta ≡ None
