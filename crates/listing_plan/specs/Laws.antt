-- The tag of a row is short, whatever `meta` asks for, because each property is shown at most once. So are all listings.
use Rattle.std.specs.Prelude.{◌≡◌, ◌≤◌, ℕ, Bool, List, true, length, Option, All}
use Rattle.dmap_tags.specs.Tree.{Tree}
use Rattle.dmap_tags.specs.Spelling.{payload, spelling, is_spellable}
use Rattle.item_model.specs.declared.item.Row.{Row}
use Rattle.item_model.specs.declared.request.Meta.{Meta}
use Rattle.item_model.specs.declared.request.Target.{Target}
use Rattle.item_model.specs.Items.{is_item}
use Rattle.item_model.specs.Projection.{projection}
use Rattle.share_history.specs.Listings.{shown_rows}
use Rattle.share_history.specs.Bodies.{body_tree}
use Rattle.listing_plan.specs.Limits.{rows_limit, row_limit, listing_limit}

-- a tag can be encoded, and has no more bytes than a row may have
pub record IsShort (tag : Tree) : Type 0 where
  pub within : length (spelling tag) ≤ row_limit
  pub spellable : is_spellable tag ≡ true

abbrev pub RowsAreShort : Type 0
RowsAreShort = (row : Row) (member : Option ℕ) (meta : Meta) → is_item row.item ≡ true → IsShort (projection row member meta)

-- a mirror can read a listing with at most `rows_limit` rows and as many deleted keys
abbrev pub ListingsAreShort : Type 0
ListingsAreShort =
    (target : Target) (is_delta : Bool) (revision total : ℕ) (rows : List (ℕ × Row)) (meta : Meta) (gone : List ℕ)
    → All (λ row. is_item row.1.item ≡ true) rows → length rows ≤ rows_limit → length gone ≤ rows_limit
    → length (payload (body_tree target (record { is_delta = is_delta; revision = revision; total = total; rows = shown_rows target meta rows; gone = gone }))) ≤ listing_limit
