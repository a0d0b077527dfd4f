-- Where a sheet has the tags that a listing shows: as runs of properties that are neighbours on it.
use Rattle.std.specs.Prelude.{◌≡◌, ◌≤◌, ◌<◌, ◌-◌, ◌++◌, ℕ, List, length, take, drop, flat_map, slice_index_or, All}
use Rattle.std.specs.Int.{w32, to_be_bytes}
use Rattle.dmap_tags.specs.Codes.{code, code_bytes}
use Rattle.dmap_tags.specs.Spelling.{framed, spellings}
use Rattle.dmap_tags.specs.Tree.{trees_of}
use Rattle.item_model.specs.declared.item.Row.{Row}
use Rattle.item_model.specs.declared.property.Property.{Property}
use Rattle.item_model.specs.declared.request.Target.{Target}
use Rattle.item_model.specs.declared.request.Target.TheVariants.{Items, Container}
use Rattle.item_model.specs.Projection.{shown, keys}
use Rattle.share_history.specs.Listings.{member_of}
use Rattle.row_sheets.specs.Cells.{cell, row_cells, joined, HasNoOther}
use Rattle.listing_plan.specs.declared.runs.Run.{Run}
use Rattle.listing_plan.specs.declared.sheet_row.SheetRow.{SheetRow}
use Rattle.listing_plan.specs.Limits.{shown_limit}

-- a run is among the properties of the sheet
pub record IsWithin (ps : List Property) (run : Run) : Type 0 where
  pub order : run.from ≤ run.to
  pub end : run.to ≤ length ps

-- the encoded tags that a row has of the properties of a run, and of those of several
abbrev pub run_bytes : List Property → Row → Run → List ℕ
run_bytes ps row run = joined (row_cells (take (run.to - run.from) (drop run.from ps)) row)

abbrev pub runs_bytes : List Property → Row → List Run → List ℕ
runs_bytes ps row runs = flat_map (run_bytes ps row) runs

-- the runs have what the old ones have, and then what one more has
pub record Joins (run : Run) (old new : List Run) : Type 0 where
  pub within : (ps : List Property) → All (IsWithin ps) old → IsWithin ps run → All (IsWithin ps) new
  pub bytes : (ps : List Property) (row : Row) → All (IsWithin ps) old → IsWithin ps run → runs_bytes ps row new ≡ runs_bytes ps row old ++ run_bytes ps row run

-- the runs have what the old ones have, and then the property
pub record Mentions (ps : List Property) (p : Property) (old new : List Run) : Type 0 where
  pub within : All (IsWithin ps) new
  pub bytes : (row : Row) → HasNoOther ps row → runs_bytes ps row new ≡ runs_bytes ps row old ++ cell row.item p

-- the runs have of each row the properties that are asked for and nothing else, if the row has no others than the sheet
pub record AreRuns (ps asked : List Property) (runs : List Run) : Type 0 where
  pub within : All (IsWithin ps) runs
  pub spelled : (row : Row) → HasNoOther ps row → runs_bytes ps row runs ≡ spellings (trees_of (shown row.item asked))

-- what comes before a row's properties, if its tag has a payload of `len` bytes: the head and the keys
abbrev pub front_bytes : Target → (len id : ℕ) → List ℕ
front_bytes target len id =
    (code_bytes (code "mlit") ++ to_be_bytes w32 len) ++ spellings (trees_of (keys (member_of target id) id))

-- how many bytes these are
abbrev pub front_length : Target → ℕ
front_length Items = 20
front_length (Container id) = 32

-- the whole tag of a row in a listing of the target, with what the runs have
abbrev pub tag_by_runs : Target → List Property → Row → List Run → List ℕ
tag_by_runs target ps row runs =
    framed (code "mlit") (spellings (trees_of (keys (member_of target row.id) row.id)) ++ runs_bytes ps row runs)

-- the same of a row on a sheet, and the tags in it alone
abbrev pub sheet_row_tag : Target → SheetRow → List ℕ
sheet_row_tag target row = tag_by_runs target row.sheet.now.properties row.shared.now row.runs.now

abbrev pub row_bytes : SheetRow → List ℕ
row_bytes row = runs_bytes row.sheet.now.properties row.shared.now row.runs.now

-- the row is the one at its index on the sheet, with its id, and its runs are among the sheet's properties and have few
-- bytes
pub record IsSheetRow (row : SheetRow) : Type 0 where
  pub below : row.index < length row.sheet.now.rows
  pub there : slice_index_or row.sheet.now.rows row.index row.shared.now ≡ row.shared.now
  pub numbered : row.id ≡ row.shared.now.id
  pub within : All (IsWithin row.sheet.now.properties) row.runs.now
  pub short : length (row_bytes row) ≤ shown_limit
