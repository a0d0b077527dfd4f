-- What a batch names, each kind in order.
use Rattle.std.specs.Prelude.{ℕ, List, [], ◌∷◌, flat_map}
use Rattle.item_model.specs.declared.changes.Edit.{Edit}
use Rattle.item_model.specs.declared.changes.Edit.TheVariants.{PutItem, DropItem, PutList, PutRule, DropList, PutMember, DropMember}
use Rattle.item_store.specs.Stands.{named_items}
use Rattle.share_history.specs.Named.{named_lists}

pub record Names : Type 0 where
  -- the lists that it puts or drops
  pub lists : List ℕ
  -- the members that it puts or drops, each with its list
  pub members : List (ℕ × ℕ)
  -- the items that it puts or drops
  pub items : List ℕ

abbrev pub members_in : Edit → List (ℕ × ℕ)
members_in (PutItem row) = []
members_in (DropItem id) = []
members_in (PutList list name) = []
members_in (PutRule list name rule) = []
members_in (DropList list) = []
members_in (PutMember list member item) = (list, member) ∷ []
members_in (DropMember list member) = (list, member) ∷ []

abbrev pub named_members : List Edit → List (ℕ × ℕ)
named_members es = flat_map members_in es

abbrev pub names_of : List Edit → Names
names_of es = record { lists = named_lists es; members = named_members es; items = named_items es }
