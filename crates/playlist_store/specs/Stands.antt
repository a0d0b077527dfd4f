-- The batches of edits that a store of lists represents.
use Rattle.std.specs.Prelude.{◌≡◌, ◌≤◌, ℕ, ◌-◌, List, [], true, false, ◌&&◌, nat_lt, map, drop, Option, Some}
use Rattle.std.specs.Option.{option_map}
use Rattle.std.specs.List.{list_any}
use Rattle.item_model.specs.declared.changes.Edit.{Edit}
use Rattle.item_model.specs.Valid.{AreValid}
use Rattle.item_store.specs.Stands.{floor_of}
use Rattle.share_history.specs.Numbers.{first_revision}
use Rattle.share_history.specs.Histories.{revision, edits, up_to, later}
use Rattle.share_history.specs.LastSaid.{Plain, list_at, member_at}
use Rattle.share_history.specs.Named.{names_list}
use Rattle.playlist_store.specs.declared.kept.ListVersion.{ListVersion}
use Rattle.playlist_store.specs.Words.{head_of, standing}
use Rattle.playlist_store.specs.Names.{names_of}
use Rattle.playlist_store.specs.Lists.{top, list_in, head_in, since_of, member_in, near_in, names_key}
use Rattle.playlist_store.specs.Store.{Store}

-- what is read of each list agrees with the batches `bs`. Members agree from the list's last put on and from `low`
-- on; after the last of `bs` only if none of the edits `more` may have changed them
pub record Shows (bs : List (List Edit)) (more : List Edit) (low : ℕ) (read : ℕ → Option ListVersion) : Type 0 where
  pub heads : (c : ℕ) → head_in (read c) ≡ option_map head_of (list_at (edits bs) c)
  -- the list was put or dropped after a base if and only if its version is later than the base
  pub since : (c base : ℕ) → low ≤ base → list_any (names_list c) (later bs base) ≡ nat_lt base (since_of (read c))
  pub members : (c key base : ℕ) → low ≤ base → since_of (read c) ≤ base
      → (nat_lt (revision bs) base && list_any (names_key (head_in (read c)) c key) more) ≡ false
      → member_in (read c) key base ≡ standing (list_at (edits bs) c) (edits (up_to bs base)) c key
  -- the index has each member of a playlist under its item
  pub near : (c key item : ℕ) (name : List ℕ) → list_at (edits bs) c ≡ Some (Plain name) → member_at (edits bs) c key ≡ Some item
      → near_in (read c) item key ≡ true

-- the store agrees with a share after these batches of valid edits, and at each revision from its floor on
pub record StandsFor (bs : List (List Edit)) (store : Store) : Type 0 where
  pub revision : store.revision ≡ revision bs
  pub valid : AreValid (edits bs)
  pub now : Shows bs [] store.low (top store.lists)
  pub named : store.named ≡ map names_of (drop (store.low - first_revision) bs)
  pub least : first_revision ≤ store.low
  pub reach : store.low ≤ floor_of store.keep store.revision
  -- the last batch can be reverted
  pub undo : store.can_undo ≡ true → store.low ≤ floor_of store.keep (store.revision - 1)
  pub before : store.can_undo ≡ true
      → Shows (up_to bs (store.revision - 1)) (later bs (store.revision - 1)) store.low (λ c. list_in store.lists c (store.revision - 1))

-- the store is unchanged for every caller
pub record IsUnchanged (old new : Store) : Type 0 where
  pub keep : new.keep ≡ old.keep
  pub revision : new.revision ≡ old.revision
  pub undo : new.can_undo ≡ old.can_undo
  pub stands : (bs : List (List Edit)) → StandsFor bs old → StandsFor bs new
