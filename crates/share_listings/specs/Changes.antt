-- What became of a key since the base of a look: what is listed under it, and whether it is deleted.
use Rattle.std.specs.Prelude.{◌≡◌, ℕ, List, Bool, true, false, ◌&&◌, Option, Some, None, is_some, is_none, if◌then◌else◌}
use Rattle.std.specs.Option.{option_and_then}
use Rattle.dmap_tags.specs.SameTags.{is_same_tag}
use Rattle.item_model.specs.declared.changes.Edit.{Edit}
use Rattle.item_model.specs.declared.item.Row.{Row}
use Rattle.item_model.specs.declared.property.Property.{Property}
use Rattle.item_model.specs.declared.request.Look.{Look}
use Rattle.item_model.specs.declared.request.Target.{Target}
use Rattle.item_model.specs.Projection.{asked, listed_row}
use Rattle.share_history.specs.Histories.{edits, up_to}
use Rattle.share_history.specs.Kept.{is_kept}
use Rattle.share_history.specs.Listings.{member_of}
use Rattle.share_history.specs.Rows.{row_at}
use Rattle.item_store.specs.Store.{Store}
use Rattle.share_listings.specs.Memberships.{Tells}
use Rattle.share_listings.specs.declared.membership.Membership.{Membership}
use Rattle.share_listings.specs.declared.changed.Change.{Change}
use Rattle.share_listings.specs.declared.changed.Change.TheVariants.{Unchanged, Listed, Gone}

-- the stores represent these batches, and the base is kept
pub record TellsSince (bs : List (List Edit)) (items : Store) (target : Target) (membership : Membership) (base : ℕ) : Type 0 where
  pub tells : Tells bs items target membership
  pub kept : is_kept items.keep bs target base ≡ true

-- the row, unless the earlier one is shown as an equal tag
abbrev pub unless_shown : Option ℕ → List Property → Option Row → Row → Option Row
unless_shown member ps None row = Some row
unless_shown member ps (Some old) row = if is_same_tag (listed_row old member ps) (listed_row row member ps) then None else Some row

-- the row of a key at the base, and now
abbrev pub row_then : List (List Edit) → Target → Look → ℕ → Option Row
row_then bs target look key = row_at (edits (up_to bs look.base)) target look.query key

abbrev pub row_now : List (List Edit) → Target → Look → ℕ → Option Row
row_now bs target look key = row_at (edits bs) target look.query key

-- the row that a delta lists under a key
abbrev pub listed_at : List (List Edit) → Target → Look → ℕ → Option Row
listed_at bs target look key = option_and_then (unless_shown (member_of target key) (asked look.meta) (row_then bs target look key)) (row_now bs target look key)

-- whether a delta deletes a key
abbrev pub is_deleted : List (List Edit) → Target → Look → ℕ → Bool
is_deleted bs target look key = is_none (row_now bs target look key) && is_some (row_then bs target look key)

-- what a change lists, and whether it deletes
abbrev pub listed_in : Change → Option Row
listed_in Unchanged = None
listed_in (Listed row) = Some row.now
listed_in Gone = None

abbrev pub is_deletion : Change → Bool
is_deletion Unchanged = false
is_deletion (Listed row) = false
is_deletion Gone = true

-- the change is that of the key
pub record IsChange (bs : List (List Edit)) (target : Target) (look : Look) (key : ℕ) (change : Change) : Type 0 where
  pub listed : listed_in change ≡ listed_at bs target look key
  pub deleted : is_deletion change ≡ is_deleted bs target look key
