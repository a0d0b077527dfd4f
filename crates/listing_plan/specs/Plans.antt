-- What a plan writes: nothing, a text, a tag, or the body of a listing.
use Rattle.std.specs.Prelude.{◌≡◌, ◌≤◌, ℕ, List, [], true, false, length, map, unwrap_or, All, Bool}
use Rattle.dmap_tags.specs.Spelling.{spelling, is_spellable}
use Rattle.item_model.specs.declared.item.Row.{Row}
use Rattle.item_model.specs.declared.request.Meta.{Meta}
use Rattle.item_model.specs.declared.request.Target.{Target}
use Rattle.share_history.specs.Keyed.{AreAscending}
use Rattle.share_history.specs.Listings.{Listing, member_of, shown_rows}
use Rattle.share_history.specs.Bodies.{body_tree}
use Rattle.listing_plan.specs.declared.plan.Plan.{Plan}
use Rattle.listing_plan.specs.declared.plan.Plan.TheVariants.{Empty, Plain, Tagged, Rows}
use Rattle.listing_plan.specs.declared.row.PlanRow.{PlanRow}
use Rattle.listing_plan.specs.Limits.{rows_limit}

-- the key of a row: its member's in a container, else its item's id
abbrev pub key_of : PlanRow → ℕ
key_of row = unwrap_or row.member row.row.id

abbrev pub keys_of_rows : List PlanRow → List ℕ
keys_of_rows rows = map key_of rows

-- the rows by their keys, as listings have them
abbrev pub keyed : List PlanRow → List (ℕ × Row)
keyed rows = map (λ row. (key_of row, row.row)) rows

-- rows of a listing of the target: they have member keys if it is a container, the keys ascend, and there are not too many
pub record AreRowsOf (target : Target) (rows : List PlanRow) : Type 0 where
  pub members : All (λ row. row.member ≡ member_of target (key_of row)) rows
  pub ascending : AreAscending (keys_of_rows rows)
  pub few : length rows ≤ rows_limit

pub record AreGone (keys : List ℕ) : Type 0 where
  pub ascending : AreAscending keys
  pub few : length keys ≤ rows_limit

-- the full listing with these rows under their keys, if there are `total` before the range
abbrev pub full_keyed : Target → (revision total : ℕ) → List (ℕ × Row) → Meta → Listing
full_keyed target revision total rows meta =
    record { is_delta = false; revision = revision; total = total; rows = shown_rows target meta rows; gone = [] }

-- the same with the rows of a plan, and the delta with these rows and deleted keys
abbrev pub full_plan : Target → (revision total : ℕ) → List PlanRow → Meta → Listing
full_plan target revision total rows meta = full_keyed target revision total (keyed rows) meta

abbrev pub delta_plan : Target → (revision : ℕ) → List PlanRow → List ℕ → Meta → Listing
delta_plan target revision rows gone meta =
    record { is_delta = true; revision = revision; total = length rows; rows = shown_rows target meta (keyed rows); gone = gone }

-- the bytes that a plan writes
abbrev pub plan_bytes : Plan → List ℕ
plan_bytes Empty = []
plan_bytes (Plain bytes) = bytes
plan_bytes (Tagged tag) = spelling tag
plan_bytes (Rows planned) = spelling (body_tree planned.target planned.listing)

-- whether a plan can be written: a tag is not too long to encode
abbrev pub is_writable : Plan → Bool
is_writable Empty = true
is_writable (Plain bytes) = true
is_writable (Tagged tag) = is_spellable tag
is_writable (Rows planned) = true

abbrev pub IsWritable : Plan → Type 0
IsWritable plan = is_writable plan ≡ true
