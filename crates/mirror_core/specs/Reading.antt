-- Reading a body: one member after another, each compared to the next expected one.
use Rattle.std.specs.Prelude.{ℕ, suc, List, [], ◌∷◌, Bool, true, false, ◌==◌, ◌&&◌, ◌||◌, not, nat_lt, map, Option, Some, None, unwrap_or, is_some, option_map, option_and_then, Result, Ok, Err, if◌then◌else◌}
use Rattle.std.specs.Option.{option_map_or}
use Rattle.dmap_tags.specs.Codes.{Four, code, is_code}
use Rattle.dmap_tags.specs.Tree.{Tree, leaf, list, none, more, tree_list, U8, U32}
use Rattle.item_model.specs.declared.request.Target.{Target}
use Rattle.share_history.specs.LastSaid.{only_if}
use Rattle.share_history.specs.Listings.{Listing}
use Rattle.share_history.specs.Bodies.{body_code, key_code}
use Rattle.mirror_core.specs.declared.told.Due.{Due}
use Rattle.mirror_core.specs.declared.told.Due.TheVariants.{Status, Kind, Revision, Total, Listed, Rows, Gone, Nothing}
use Rattle.mirror_core.specs.Bodies.{is_listings}

-- the contents of a listing, its rows and deleted keys as tags
pub record Told : Type 0 where
  pub is_delta : Bool
  pub revision : ℕ
  pub total : ℕ
  pub rows : List Tree
  pub gone : List Tree

abbrev pub untold : Told
untold = record { is_delta = false; revision = 0; total = 0; rows = []; gone = [] }

-- the number, the kind and the members of a tag with a given code
abbrev pub number_in : Four → Tree → Option ℕ
number_in c (leaf d (U32 n)) = only_if (is_code d c) n
number_in c _ = None

abbrev pub marked : ℕ → Option Bool
marked n = if n == 0 then Some false else only_if (n == 1) true

abbrev pub mark_in : Tree → Option Bool
mark_in (leaf d (U8 n)) = if is_code d (code "muty") then marked n else None
mark_in _ = None

abbrev pub members_in : Four → Tree → Option (List Tree)
members_in c (leaf d l) = None
members_in c (list d ts) = only_if (is_code d c) (tree_list ts)

-- the key at the start of a row
abbrev pub row_key : Target → Tree → Option ℕ
row_key target (leaf d l) = None
row_key target (list d none) = None
row_key target (list d (more t ts)) = if is_code d (code "mlit") then number_in (key_code target) t else None

abbrev pub are_rows : Target → List Tree → Bool
are_rows target [] = true
are_rows target (t ∷ ts) = is_some (row_key target t) && are_rows target ts

abbrev pub are_keys : Target → List Tree → Bool
are_keys target [] = true
are_keys target (t ∷ ts) = is_some (number_in (key_code target) t) && are_keys target ts

-- a tag under its key as a row, and the key that a tag states
abbrev pub row_of : Target → Tree → ℕ × Tree
row_of target t = (unwrap_or (row_key target t) 0, t)

abbrev pub key_of : Target → Tree → ℕ
key_of target t = unwrap_or (number_in (key_code target) t) 0

abbrev pub listing_of : Target → Told → Listing
listing_of target told =
    record { is_delta = told.is_delta; revision = told.revision; total = told.total; rows = map (row_of target) told.rows; gone = map (key_of target) told.gone }

abbrev pub after_rows : Bool → Due
after_rows is_delta = if is_delta then Gone else Nothing

-- the state after one of a listing's members, if it is the expected one
abbrev pub step : Target → ℕ → Due → Told → Tree → Option (Due × Told)
step target base Status told t = option_and_then (λ n. only_if (n == 200) (Kind, told)) (number_in (code "mstt") t)
step target base Kind told t = option_and_then (λ d. only_if (not d || nat_lt 0 base) (Revision, record told { is_delta = d })) (mark_in t)
step target base Revision told t = option_map (λ n. (Total, record told { revision = n })) (number_in (code "musr") t)
step target base Total told t = option_map (λ n. (Listed, record told { total = n })) (number_in (code "mtco") t)
step target base Listed told t = option_map (λ n. (Rows, told)) (number_in (code "mrco") t)
step target base Rows told t = option_and_then (λ ts. only_if (are_rows target ts) (after_rows told.is_delta, record told { rows = ts })) (members_in (code "mlcl") t)
step target base Gone told t = option_and_then (λ ts. only_if (are_keys target ts) (Nothing, record told { gone = ts })) (members_in (code "mudl") t)
step target base Nothing told t = None

-- the state after any member: others are skipped
abbrev pub passed : Target → ℕ → Due → Told → Tree → Option (Due × Told)
passed target base due told t = if is_listings t then step target base due told t else Some (due, told)

abbrev pub ended : Due → Told → ℕ → Result Told ℕ
ended Nothing told place = Ok told
ended _ told place = Err place

-- the members from index `place` on: what all of them state, or the index that cannot continue a listing
abbrev pub read_from : Target → ℕ → Due → Told → ℕ → List Tree → Result Told ℕ
read_from target base due told place [] = ended due told place
read_from target base due told place (t ∷ ts) = option_map_or (λ s. read_from target base s.0 s.1 (suc place) ts) (passed target base due told t) (Err place)

-- a whole tag; another tag has no index
abbrev pub placed : Result Told ℕ → Result Told (Option ℕ)
placed (Ok told) = Ok told
placed (Err place) = Err (Some place)

abbrev pub read_members : Target → ℕ → Option (List Tree) → Result Told (Option ℕ)
read_members target base None = Err None
read_members target base (Some ts) = placed (read_from target base Status untold 0 ts)

abbrev pub read_tag : Target → ℕ → Tree → Result Told (Option ℕ)
read_tag target base tag = read_members target base (members_in (body_code target) tag)
