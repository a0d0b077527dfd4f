-- What a listing of items says. A full listing has the rows that the query selects, or those of them in the range. A
-- delta has the rows that are new or shown differently since its base, and the keys of rows that are no longer shown.
use Rattle.std.specs.Prelude.{ℕ, List, [], Bool, true, false, length, map, Option, Some, None, if◌then◌else◌}
use Rattle.dmap_tags.specs.Tree.{Tree}
use Rattle.item_model.specs.declared.item.Row.{Row}
use Rattle.item_model.specs.declared.changes.Edit.{Edit}
use Rattle.item_model.specs.declared.request.Meta.{Meta}
use Rattle.item_model.specs.declared.request.Look.{Look}
use Rattle.item_model.specs.declared.request.Target.{Target}
use Rattle.item_model.specs.declared.request.Target.TheVariants.{Items, Container}
use Rattle.item_model.specs.Projection.{projection}
use Rattle.share_history.specs.Histories.{revision, edits, up_to}
use Rattle.share_history.specs.Rows.{rows}
use Rattle.share_history.specs.Ranges.{in_range}
use Rattle.share_history.specs.Kept.{is_kept}
use Rattle.share_history.specs.Differences.{new_tags, gone_keys}

pub record Listing : Type 0 where
  pub is_delta : Bool
  pub revision : ℕ
  -- the number of rows before the range
  pub total : ℕ
  -- the listed rows with their keys, ascending
  pub rows : List (ℕ × Tree)
  -- the keys that a delta deletes, ascending
  pub gone : List ℕ

-- in a container the row of an item also states its key, the member's id
abbrev pub member_of : Target → ℕ → Option ℕ
member_of Items key = None
member_of (Container c) key = Some key

abbrev pub shown : Target → Meta → ℕ × Row → ℕ × Tree
shown target meta row = (row.0, projection row.1 (member_of target row.0) meta)

abbrev pub shown_rows : Target → Meta → List (ℕ × Row) → List (ℕ × Tree)
shown_rows target meta all = map (shown target meta) all

-- the full listing of these rows, which are those before the range
abbrev pub full_of : ℕ → Target → Look → List (ℕ × Row) → Listing
full_of revision target look all =
    record { is_delta = false; revision = revision; total = length all; rows = shown_rows target look.meta (in_range look.range all); gone = [] }

-- the delta that lists these tags and deletes these keys
abbrev pub delta_with : ℕ → List (ℕ × Tree) → List ℕ → Listing
delta_with revision listed gone = record { is_delta = true; revision = revision; total = length listed; rows = listed; gone = gone }

-- the delta from the rows shown at the base to the rows shown at present; the range has no effect
abbrev pub delta_of : ℕ → List (ℕ × Tree) → List (ℕ × Tree) → Listing
delta_of revision before now = delta_with revision (new_tags before now) (gone_keys before now)

-- all rows that a request shows after some batches, before the range
abbrev pub shown_after : List (List Edit) → Target → Look → List (ℕ × Tree)
shown_after bs target look = shown_rows target look.meta (rows (edits bs) target look.query)

abbrev pub full_listing : List (List Edit) → Target → Look → Listing
full_listing bs target look = full_of (revision bs) target look (rows (edits bs) target look.query)

abbrev pub delta_listing : List (List Edit) → Target → Look → ℕ → Listing
delta_listing bs target look base = delta_of (revision bs) (shown_after (up_to bs base) target look) (shown_after bs target look)

-- a delta if the base is in the delta window, else a full listing
abbrev pub listing : ℕ → List (List Edit) → Target → Look → Listing
listing keep bs target look =
    if is_kept keep bs target look.base then delta_listing bs target look look.base else full_listing bs target look
