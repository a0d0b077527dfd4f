-- Which batches of edits a store represents.
use Rattle.std.specs.Prelude.{◌≡◌, ◌≤◌, ℕ, ◌-◌, List, [], ◌∷◌, true, length, map, drop, max, flat_map}
use Rattle.item_model.specs.declared.changes.Edit.{Edit}
use Rattle.item_model.specs.declared.changes.Edit.TheVariants.{PutItem, DropItem, PutList, PutRule, DropList, PutMember, DropMember}
use Rattle.item_model.specs.Valid.{AreValid}
use Rattle.share_history.specs.Numbers.{first_revision}
use Rattle.share_history.specs.Histories.{revision, edits, up_to}
use Rattle.share_history.specs.LastSaid.{item_at}
use Rattle.share_history.specs.Rows.{library}
use Rattle.key_versions.specs.Held.{value_at}
use Rattle.item_store.specs.Store.{Store}

-- the least base that `keep` allows, and no base below the first revision
abbrev pub floor_of : (keep revision : ℕ) → ℕ
floor_of keep revision = max first_revision (revision - keep)

-- the item that an edit puts or drops
abbrev pub items_in : Edit → List ℕ
items_in (PutItem row) = row.id ∷ []
items_in (DropItem id) = id ∷ []
items_in (PutList list name) = []
items_in (PutRule list name rule) = []
items_in (DropList list) = []
items_in (PutMember list member item) = []
items_in (DropMember list member) = []

abbrev pub named_items : List Edit → List ℕ
named_items es = flat_map items_in es

-- the store has what is true of a share after these batches of valid edits, now and at each revision from its floor on
pub record StandsFor (bs : List (List Edit)) (store : Store) : Type 0 where
  pub revision : store.revision ≡ revision bs
  pub valid : AreValid (edits bs)
  -- at the present revision and above the rows are the present ones
  pub rows : (id base : ℕ) → store.low ≤ base → value_at store.versions id base ≡ item_at (edits (up_to bs base)) id
  pub count : store.count ≡ length (library (edits bs))
  pub named : store.named ≡ map named_items (drop (store.low - first_revision) bs)
  pub least : first_revision ≤ store.low
  pub reach : store.low ≤ floor_of store.keep store.revision
  -- what takes the last batch back is there too
  pub undo : store.can_undo ≡ true → store.low ≤ floor_of store.keep (store.revision - 1)
  pub count_before : store.can_undo ≡ true → store.count_before ≡ length (library (edits (up_to bs (store.revision - 1))))
  -- and so are all rows, as they are now and as they were before the last batch
  pub present : store.present ≡ library (edits bs)
  pub before : store.can_undo ≡ true → store.before ≡ library (edits (up_to bs (store.revision - 1)))

-- the store is as it was for whoever uses it
pub record IsUnchanged (old new : Store) : Type 0 where
  pub keep : new.keep ≡ old.keep
  pub revision : new.revision ≡ old.revision
  pub undo : new.can_undo ≡ old.can_undo
  pub stands : (bs : List (List Edit)) → StandsFor bs old → StandsFor bs new
