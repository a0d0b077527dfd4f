-- Valid edits and batches: the ids are ones that records may have, the name of a list is not too long, and a rule is
-- proper. Container 1 always exists, and no edit names it.
use Rattle.std.specs.Prelude.{◌≡◌, ℕ, ◌^◌, List, Bool, true, ◌&&◌, nat_le, nat_lt, length, All}
use Rattle.item_model.specs.QuerySeen.{tree_of}
use Rattle.item_model.specs.Proper.{is_proper}
use Rattle.item_model.specs.declared.changes.Edit.{Edit}
use Rattle.item_model.specs.declared.changes.Edit.TheVariants.{PutItem, DropItem, PutList, PutRule, DropList, PutMember, DropMember}
use Rattle.item_model.specs.Limits.{text_limit}

-- the id of an item or of a member
abbrev pub is_id : ℕ → Bool
is_id n = nat_le 1 n && nat_lt n (2 ^ 32)

-- the id of a list
abbrev pub is_list_id : ℕ → Bool
is_list_id n = nat_le 2 n && nat_lt n (2 ^ 32)

abbrev pub is_list_name : List ℕ → Bool
is_list_name name = nat_le (length name) text_limit

abbrev pub is_valid : Edit → Bool
is_valid (PutItem row) = is_id row.id
is_valid (DropItem id) = is_id id
is_valid (PutList list name) = is_list_id list && is_list_name name
is_valid (PutRule list name rule) = is_list_id list && (is_list_name name && is_proper (tree_of rule))
is_valid (DropList list) = is_list_id list
is_valid (PutMember list member item) = is_list_id list && (is_id member && is_id item)
is_valid (DropMember list member) = is_list_id list && is_id member

abbrev pub IsValid : Edit → Type 0
IsValid edit = is_valid edit ≡ true

-- a batch of valid edits
abbrev pub AreValid : List Edit → Type 0
AreValid edits = All IsValid edits
