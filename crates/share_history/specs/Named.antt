-- What an edit names: an item, a list as a whole, or a member of a list.
use Rattle.std.specs.Prelude.{ℕ, List, [], ◌∷◌, ◌==◌, Bool, false, ◌&&◌, flat_map}
use Rattle.item_model.specs.declared.changes.Edit.{Edit}
use Rattle.item_model.specs.declared.changes.Edit.TheVariants.{PutItem, DropItem, PutList, PutRule, DropList, PutMember, DropMember}

abbrev pub names_item : ℕ → Edit → Bool
names_item id (PutItem row) = row.id == id
names_item id (DropItem dropped) = dropped == id
names_item id (PutList list name) = false
names_item id (PutRule list name rule) = false
names_item id (DropList list) = false
names_item id (PutMember list member item) = false
names_item id (DropMember list member) = false

abbrev pub names_list : ℕ → Edit → Bool
names_list c (PutItem row) = false
names_list c (DropItem id) = false
names_list c (PutList list name) = list == c
names_list c (PutRule list name rule) = list == c
names_list c (DropList list) = list == c
names_list c (PutMember list member item) = false
names_list c (DropMember list member) = false

abbrev pub names_member : ℕ → ℕ → Edit → Bool
names_member c m (PutItem row) = false
names_member c m (DropItem id) = false
names_member c m (PutList list name) = false
names_member c m (PutRule list name rule) = false
names_member c m (DropList list) = false
names_member c m (PutMember list member item) = (list == c) && (member == m)
names_member c m (DropMember list member) = (list == c) && (member == m)

-- the keys of rows that an edit may change: ids of items and of members
abbrev pub keys_in : Edit → List ℕ
keys_in (PutItem row) = row.id ∷ []
keys_in (DropItem id) = id ∷ []
keys_in (PutList list name) = []
keys_in (PutRule list name rule) = []
keys_in (DropList list) = []
keys_in (PutMember list member item) = member ∷ []
keys_in (DropMember list member) = member ∷ []

abbrev pub named_keys : List Edit → List ℕ
named_keys es = flat_map keys_in es

-- the lists that an edit puts or drops
abbrev pub lists_in : Edit → List ℕ
lists_in (PutItem row) = []
lists_in (DropItem id) = []
lists_in (PutList list name) = list ∷ []
lists_in (PutRule list name rule) = list ∷ []
lists_in (DropList list) = list ∷ []
lists_in (PutMember list member item) = []
lists_in (DropMember list member) = []

abbrev pub named_lists : List Edit → List ℕ
named_lists es = flat_map lists_in es
