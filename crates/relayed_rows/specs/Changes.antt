-- What a listing changes in a library, by id: `None` for a dropped id, the row for a listed one.
use Rattle.std.specs.Prelude.{◌≡◌, ℕ, List, [], Bool, ◌&&◌, Option, Some, None, is_none, is_some, filter, filter_map, fold, map, option_map, if◌then◌else◌}
use Rattle.std.specs.Map.{keys_of}
use Rattle.dmap_tags.specs.Tree.{Tree}
use Rattle.item_model.specs.declared.item.Row.{Row}
use Rattle.item_model.specs.declared.request.Target.TheVariants.{Items}
use Rattle.share_history.specs.Keyed.{at, put_in, taken_out, IsAscending}
use Rattle.mirror_core.specs.Reading.{Told, key_of}
use Rattle.relayed_rows.specs.ReadRows.{row_of}
use Rattle.relayed_rows.specs.Libraries.{IsLibrary, IsOwn, Library}
use Rattle.relayed_rows.specs.Differences.{new_rows}

abbrev pub Change : Type 0
Change = ℕ × Option Row

abbrev pub with_gone : List Change → ℕ → List Change
with_gone changes id = put_in changes (id, None)

abbrev pub with_row : List Change → ℕ × Row → List Change
with_row changes e = put_in changes (e.0, Some e.1)

-- the rows that tags state, under their ids
abbrev pub rows_told : List Tree → Library
rows_told tags = filter_map (λ tag. option_map (λ row. (row.id, row)) (row_of tag)) tags

-- the ids dropped before the listed rows are put: all held ones for a full listing, the deleted ones for a delta
abbrev pub ids_cleared : Library → Told → List ℕ
ids_cleared held told = if told.is_delta then map (key_of Items) told.gone else keys_of held

abbrev pub changes_of : Library → Told → List Change
changes_of held told = fold with_row (fold with_gone [] (ids_cleared held told)) (rows_told told.rows)

-- the rows that changes put
abbrev pub rows_in : List Change → Library
rows_in changes = filter_map (λ c. option_map (λ row. (c.0, row)) c.1) changes

-- whether a change drops a held id
abbrev pub drops : Library → Change → Bool
drops held c = is_none c.1 && is_some (at c.0 held)

abbrev pub dropped_ids : Library → List Change → List ℕ
dropped_ids held changes = keys_of (filter (drops held) changes)

-- the rows whose ids are not held
abbrev pub fresh_rows : Library → Library → Library
fresh_rows held rows = filter (λ e. is_none (at e.0 held)) rows

-- held rows after the changes: new rows are put, and dropped ids removed
abbrev pub made : Library → List Change → Library
made held changes = fold taken_out (fold put_in held (new_rows held (rows_in changes))) (dropped_ids held changes)

-- ascending changes to a library, each row under its own id
pub record AreSound (held : Library) (changes : List Change) : Type 0 where
  pub library : IsLibrary held
  pub ascends : IsAscending changes
  pub own : (id : ℕ) (row : Row) → at id changes ≡ Some (Some row) → IsOwn (id, row)
