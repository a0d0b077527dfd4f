-- The last edit decides: an item, a list or a member is what the last edit that names it says.
use Rattle.std.specs.Prelude.{ℕ, List, [], ◌∷◌, ◌==◌, Bool, ◌&&◌, Option, Some, None, unwrap_or, if◌then◌else◌}
use Rattle.std.specs.Option.{option_or}
use Rattle.item_model.specs.declared.item.Row.{Row}
use Rattle.item_model.specs.declared.query.Query.{Query}
use Rattle.item_model.specs.declared.changes.Edit.{Edit}
use Rattle.item_model.specs.declared.changes.Edit.TheVariants.{PutItem, DropItem, PutList, PutRule, DropList, PutMember, DropMember}

-- the value that the last edit with one gives, or `None`
abbrev pub last_said : {A : Type 0} → (Edit → Option A) → List Edit → Option A
last_said says [] = None
last_said says (e ∷ es) = option_or (last_said says es) (says e)

-- `x` if the condition holds
abbrev pub only_if : {A : Type 0} → Bool → A → Option A
only_if b x = if b then Some x else None

-- a put of an item says its row; a drop says that there is none
abbrev pub says_item : ℕ → Edit → Option (Option Row)
says_item id (PutItem row) = only_if (row.id == id) (Some row)
says_item id (DropItem dropped) = only_if (dropped == id) None
says_item id (PutList list name) = None
says_item id (PutRule list name rule) = None
says_item id (DropList list) = None
says_item id (PutMember list member item) = None
says_item id (DropMember list member) = None

-- the item of an id
abbrev pub item_at : List Edit → ℕ → Option Row
item_at es id = unwrap_or (last_said (says_item id) es) None

-- the kinds of lists: a playlist whose members are put one by one, and a smart playlist of the items that match a
-- rule
pub data Playlist : Type 0 where
  Plain : (name : List ℕ) → Playlist
  Ruled : (name : List ℕ) (rule : Query) → Playlist

-- a put of a list says its kind and name; a drop says that there is none
abbrev pub says_list : ℕ → Edit → Option (Option Playlist)
says_list c (PutItem row) = None
says_list c (DropItem id) = None
says_list c (PutList list name) = only_if (list == c) (Some (Plain name))
says_list c (PutRule list name rule) = only_if (list == c) (Some (Ruled name rule))
says_list c (DropList list) = only_if (list == c) None
says_list c (PutMember list member item) = None
says_list c (DropMember list member) = None

-- the list of an id
abbrev pub list_at : List Edit → ℕ → Option Playlist
list_at es c = unwrap_or (last_said (says_list c) es) None

-- a put of a member says its item; a drop of it, and each put or drop of its list, says that there is none
abbrev pub says_member : ℕ → ℕ → Edit → Option (Option ℕ)
says_member c m (PutItem row) = None
says_member c m (DropItem id) = None
says_member c m (PutList list name) = only_if (list == c) None
says_member c m (PutRule list name rule) = only_if (list == c) None
says_member c m (DropList list) = only_if (list == c) None
says_member c m (PutMember list member item) = only_if ((list == c) && (member == m)) (Some item)
says_member c m (DropMember list member) = only_if ((list == c) && (member == m)) None

-- the item of member `m` of list `c`
abbrev pub member_at : List Edit → ℕ → ℕ → Option ℕ
member_at es c m = unwrap_or (last_said (says_member c m) es) None
