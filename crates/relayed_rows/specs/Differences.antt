-- The difference from one library to a later one, as a batch of edits: drops of the ids that are gone, then puts of
-- the rows that are new or changed, both ascending.
use Rattle.std.specs.Prelude.{ℕ, List, ◌++◌, Bool, false, not, filter, map, is_none, None}
use Rattle.std.specs.Option.{option_map_or}
use Rattle.std.specs.Map.{keys_of}
use Rattle.dmap_tags.specs.SameTags.{is_same_tag}
use Rattle.item_model.specs.declared.changes.Edit.{Edit}
use Rattle.item_model.specs.declared.changes.Edit.TheVariants.{PutItem, DropItem}
use Rattle.item_model.specs.declared.item.Row.{Row}
use Rattle.item_model.specs.declared.request.Meta.TheVariants.{All}
use Rattle.item_model.specs.Projection.{projection}
use Rattle.share_history.specs.Keyed.{at}
use Rattle.relayed_rows.specs.Libraries.{Library}

-- whether a listing of all properties shows two rows as equal tags, which is so exactly if they are equal
abbrev pub is_same_row : Row → Row → Bool
is_same_row old new = is_same_tag (projection old None All) (projection new None All)

-- whether the library has an equal row under the same id
abbrev pub has_row : Library → ℕ × Row → Bool
has_row library e = option_map_or (λ old. is_same_row old e.1) (at e.0 library) false

abbrev pub gone_ids : Library → Library → List ℕ
gone_ids before now = filter (λ id. is_none (at id now)) (keys_of before)

abbrev pub new_rows : Library → Library → Library
new_rows before now = filter (λ e. not (has_row before e)) now

abbrev pub drops_and_puts : List ℕ → Library → List Edit
drops_and_puts ids rows = map (λ id. DropItem id) ids ++ map (λ e. PutItem e.1) rows

abbrev pub difference : Library → Library → List Edit
difference before now = drops_and_puts (gone_ids before now) (new_rows before now)
