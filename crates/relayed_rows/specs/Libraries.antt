-- Libraries: rows under their ids, ascending.
use Rattle.std.specs.Prelude.{◌≡◌, ℕ, List, true, filter_map, option_map}
use Rattle.std.specs.List.{AllByRecursion}
use Rattle.dmap_tags.specs.Tree.{Tree}
use Rattle.item_model.specs.declared.item.Row.{Row}
use Rattle.item_model.specs.Items.{is_item}
use Rattle.item_model.specs.Valid.{is_id}
use Rattle.share_history.specs.Keyed.{IsAscending}
use Rattle.relayed_rows.specs.ReadRows.{row_of}

abbrev pub Library : Type 0
Library = List (ℕ × Row)

-- an item under its own id
pub record IsOwn (e : ℕ × Row) : Type 0 where
  pub own : e.1.id ≡ e.0
  pub id : is_id e.0 ≡ true
  pub item : is_item e.1.item ≡ true

pub record IsLibrary (library : Library) : Type 0 where
  pub ascends : IsAscending library
  pub rows : AllByRecursion IsOwn library

-- the rows that keyed tags state, without the tags that state none
abbrev pub library_in : List (ℕ × Tree) → Library
library_in tags = filter_map (λ tag. option_map (λ row. (tag.0, row)) (row_of tag.1)) tags
