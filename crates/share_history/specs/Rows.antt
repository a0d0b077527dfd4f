-- The rows of a listing, each an item under a key. In the library, in container 1 and in a smart playlist the key is
-- the item's id; in a playlist it is the member's. A query keeps the rows that it matches.
use Rattle.std.specs.Prelude.{ℕ, List, ◌==◌, Bool, true, Option, Some, None, is_some, option_and_then, if◌then◌else◌}
use Rattle.item_model.specs.declared.item.Row.{Row}
use Rattle.item_model.specs.declared.query.Query.{Query}
use Rattle.item_model.specs.declared.changes.Edit.{Edit}
use Rattle.item_model.specs.declared.request.Target.{Target}
use Rattle.item_model.specs.declared.request.Target.TheVariants.{Items, Container}
use Rattle.item_model.specs.QuerySeen.{tree_of}
use Rattle.song_query.specs.Holds.{holds}
use Rattle.share_history.specs.Numbers.{base_list}
use Rattle.share_history.specs.Keyed.{ascending, pairs_at}
use Rattle.share_history.specs.LastSaid.{Playlist, Plain, Ruled, item_at, list_at, member_at, only_if}
use Rattle.share_history.specs.Named.{named_keys, named_lists}

-- whether a row matches the query; without a query every row does
abbrev pub is_selected : Option Query → Row → Bool
is_selected None row = true
is_selected (Some query) row = holds (tree_of query) row

-- the row, if it matches
abbrev pub if_selected : Option Query → Row → Option Row
if_selected query row = only_if (is_selected query row) row

-- the row under a key of a list: in a playlist, the member's item, if the library has it
abbrev pub in_list : Option Playlist → List Edit → ℕ → ℕ → Option Row
in_list None es c key = None
in_list (Some (Plain name)) es c key = option_and_then (item_at es) (member_at es c key)
in_list (Some (Ruled name rule)) es c key = option_and_then (if_selected (Some rule)) (item_at es key)

abbrev pub in_target : List Edit → Target → ℕ → Option Row
in_target es Items key = item_at es key
in_target es (Container c) key = if c == base_list then item_at es key else in_list (list_at es c) es c key

-- the row of a listing under a key
abbrev pub row_at : List Edit → Target → Option Query → ℕ → Option Row
row_at es target query key = option_and_then (if_selected query) (in_target es target key)

-- all rows of a listing, ascending by key
abbrev pub rows : List Edit → Target → Option Query → List (ℕ × Row)
rows es target query = pairs_at (row_at es target query) (ascending (named_keys es))

-- the existing items, ascending by id
abbrev pub library : List Edit → List (ℕ × Row)
library es = rows es Items None

-- the existing lists besides container 1, ascending by id
abbrev pub lists : List Edit → List (ℕ × Playlist)
lists es = pairs_at (list_at es) (ascending (named_lists es))

-- whether a listing's target exists
abbrev pub is_there : List Edit → Target → Bool
is_there es Items = true
is_there es (Container c) = if c == base_list then true else is_some (list_at es c)
