-- What the texts of `--query` and `--meta` select.
use Rattle.std.specs.Prelude.{◌≡◌, ℕ, List, [], Option, Some, None, Ok, Err}
use Rattle.item_model.specs.Names.{meta_of}
use Rattle.item_model.specs.declared.query.Query.{Query}
use Rattle.item_model.specs.declared.refusal.QueryError.{QueryError}
use Rattle.item_model.specs.declared.request.Meta.{Meta}
use Rattle.item_model.specs.declared.request.Meta.TheVariants.{Default}
use Rattle.item_model.specs.declared.request.Target.{Target}
use Rattle.mirror_core.specs.Mirrored.{Mirrored}
use Rattle.song_query.specs.Answers.{Answers}

-- the query of a text; without a text, none
abbrev pub AsksQuery : Option (List ℕ) → Option Query → Type 0
AsksQuery None None = Unit {0}
AsksQuery None (Some query) = ⊥
AsksQuery (Some text) None = ⊥
AsksQuery (Some text) (Some query) = Answers text (Ok query)

abbrev pub HasRefusal : Option (List ℕ) → QueryError → Type 0
HasRefusal None error = ⊥
HasRefusal (Some text) error = Answers text (Err error)

-- the properties that a text names; without a text, the default ones
abbrev pub meta_or_default : Option (List ℕ) → Option Meta
meta_or_default None = Some Default
meta_or_default (Some text) = meta_of text

-- a mirror that holds nothing yet
abbrev pub mirror_of : Target → Option Query → Meta → Mirrored
mirror_of target query meta = record { target = target; query = query; meta = meta; held = record { revision = 0; rows = [] } }

-- the texts select this mirror
pub record AsksMirror (query meta : Option (List ℕ)) (target : Target) (m : Mirrored) : Type 0 where
  pub asked : Option Query
  pub shown : Meta
  pub query_is : AsksQuery query asked
  pub meta_is : meta_or_default meta ≡ Some shown
  pub is : m ≡ mirror_of target asked shown
