-- Definitions for the reads of lists, members and changes.
use Rattle.std.specs.Prelude.{ℕ, ◌-◌, ◌^◌, List, ◌==◌, Bool, true, false, ◌&&◌, ◌||◌, Option, None, Some, is_some}
use Rattle.std.specs.Ordering.{nat_cmp}
use Rattle.std.specs.List.{list_any, filter}
use Rattle.std.specs.Set.{remove_key}
use Rattle.std.specs.BTreeMap.{is_at}
use Rattle.std.specs.BTreeMap.Range.{range_contains}
use Rattle.std.specs.BTreeSet.{insert_key}
use Rattle.std.specs.declared.ops.Bound.TheVariants.{Included}
use Rattle.item_model.specs.declared.changes.Edit.{Edit}
use Rattle.item_model.specs.declared.changes.Edit.TheVariants.{PutItem, DropItem, PutList, PutRule, DropList, PutMember, DropMember}
use Rattle.key_versions.specs.Found.{newest_value}
use Rattle.key_versions.specs.Held.{versions_at}
use Rattle.share_history.specs.LastSaid.{only_if, item_at}
use Rattle.playlist_store.specs.declared.kept.ListVersion.{ListVersion}
use Rattle.playlist_store.specs.Names.{Names}
use Rattle.playlist_store.specs.Lists.{near_cmp}

abbrev pub is_key : ℕ → List ℕ → Bool
is_key key keys = list_any (is_at (nat_cmp key)) keys

-- an id, if its item exists
abbrev pub there : List Edit → ℕ → Option ℕ
there es id = only_if (is_some (item_at es id)) id

-- whether a named member is the one under a key of a list
abbrev pub is_member : ℕ → ℕ → ℕ × ℕ → Bool
is_member c key named = (named.0 == c) && (named.1 == key)

-- whether the item of a member is the given one
abbrev pub has_item : Option ℕ → ℕ → Bool
has_item None item = false
has_item (Some own) item = item == own

-- the pairs in the index under an item
abbrev pub pairs_of : ℕ → List (ℕ × ℕ) → List (ℕ × ℕ)
pairs_of item near = filter (range_contains near_cmp (Included (item, 0)) (Included (item, 2 ^ 32 - 1))) near

abbrev pub is_near : List (ℕ × ℕ) → ℕ → ℕ → Bool
is_near near item key = list_any (λ pair. pair.1 == key) (pairs_of item near)

-- whether a member of a playlist has an item
abbrev pub is_item_of : ListVersion → ℕ → ℕ → Bool
is_item_of kept key item = is_near kept.near.keys item key && has_item (newest_value (versions_at key kept.members)) item

-- whether a batch touches a key of a playlist, by what it names
abbrev pub is_touched_by : ListVersion → ℕ → ℕ → Names → Bool
is_touched_by kept c key names = list_any (is_member c key) names.members || list_any (is_item_of kept key) names.items

-- the ids of existing lists after an edit
abbrev pub with_list : List ℕ → Edit → List ℕ
with_list ids (PutItem row) = ids
with_list ids (DropItem id) = ids
with_list ids (PutList list name) = insert_key nat_cmp ids list
with_list ids (PutRule list name rule) = insert_key nat_cmp ids list
with_list ids (DropList list) = remove_key (is_at (nat_cmp list)) ids
with_list ids (PutMember list member item) = ids
with_list ids (DropMember list member) = ids

-- whether an edit puts or drops a list
abbrev pub is_of_list : Edit → Bool
is_of_list (PutItem row) = false
is_of_list (DropItem id) = false
is_of_list (PutList list name) = true
is_of_list (PutRule list name rule) = true
is_of_list (DropList list) = true
is_of_list (PutMember list member item) = false
is_of_list (DropMember list member) = false
