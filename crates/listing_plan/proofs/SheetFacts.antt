-- What sheets have of their rows is what a listing has of them.
use Rattle.std.proofs.Common.{◌≡◌, ◌≤◌, ◌<◌, ◌+◌, ◌-◌, ◌*◌, ◌++◌, ℕ, zero, suc, false, List, [], ◌∷◌, length, drop, get_or, map, All, refl, sym, ap, subst, ◌∙◌, append_assoc, length-append, arith}
use Rattle.std.specs.Int.{w32, to_be_bytes}
use Rattle.std.specs.List.{sum_by}
use Rattle.std.proofs.lemmas.List.{map-append, length-map, get_or-map, at_drop_more}
use Rattle.std.proofs.lemmas.List.Sums.{sum_by-cons}
use Rattle.std.specs.Arc.{arc_value}
use Rattle.std.specs.declared.sync.Arc.{Arc}
use Rattle.dmap_tags.specs.Codes.{code, code_bytes}
use Rattle.dmap_tags.specs.Spelling.{framed, spelling, spellings}
use Rattle.dmap_tags.specs.Tree.{Tree, trees_of}
use Rattle.item_model.specs.declared.item.Row.{Row}
use Rattle.item_model.specs.declared.property.Property.{Property}
use Rattle.item_model.specs.declared.request.Meta.{Meta}
use Rattle.item_model.specs.declared.request.Target.{Target}
use Rattle.item_model.specs.declared.request.Target.TheVariants.{Items, Container}
use Rattle.item_model.specs.Projection.{asked, keys, shown, first_mentions, mentions}
use Rattle.share_history.specs.Listings.{member_of, shown_rows}
use Rattle.row_sheets.specs.Cells.{cell, column_length, ids_of, HasNoOther, HasValues}
use Rattle.row_sheets.specs.Sheets.{by_id, rows_on, rows_in}
use Rattle.row_sheets.specs.Spelled.{Spelled}
use Rattle.listing_plan.specs.declared.runs.Run.{Run}
use Rattle.listing_plan.specs.declared.sheet_row.SheetRow.{SheetRow}
use Rattle.listing_plan.specs.Held.{plan_row, row_under_id, sheet_bytes, row_tree, row_trees, rows_held}
use Rattle.listing_plan.specs.Runs.{AreRuns, IsSheetRow, front_bytes, front_length, row_bytes, run_bytes, runs_bytes, sheet_row_tag, tag_by_runs}
use Rattle.listing_plan.proofs.Spelled.{spellings_append, framed_length, more_length}
use Rattle.listing_plan.proofs.Short.{shown_cons, shown_short, once_short, row_length}

-- the tags of a sheet's rows are those of some and of the others
sheet_append : (target : Target) (ps : List Property) (xs ys : List Row) → sheet_bytes target ps (xs ++ ys) ≡ sheet_bytes target ps xs ++ sheet_bytes target ps ys
sheet_append target ps xs ys =
    ap (λ rows. spellings (trees_of (row_trees ps rows))) (map-append (row_under_id target) xs ys)
    ∙ ap (λ ts. spellings (trees_of ts)) (map-append (row_tree ps) (map (row_under_id target) xs) (map (row_under_id target) ys))
    ∙ spellings_append (row_trees ps (map (row_under_id target) xs)) (row_trees ps (map (row_under_id target) ys))

-- what the runs of a sheet have of a row is the row's tag in a listing
tag_is : (target : Target) (asked ps : List Property) (row : Row) (runs : List Run) → HasNoOther ps row → AreRuns ps asked runs → tag_by_runs target ps row runs ≡ spelling (row_tree asked (row_under_id target row))
tag_is target asked ps row runs others are =
    let own : List Tree = keys (member_of target row.id) row.id in
    ap (λ bytes. framed (code "mlit") (spellings (trees_of own) ++ bytes)) (are.spelled row others)
    ∙ ap (framed (code "mlit")) (sym (spellings_append own (shown row.item asked)))

-- a row that is at an index of its sheet has no properties beside the sheet's
no_other : (ps : List Property) (rows : List Row) (i : ℕ) (row : Row) → i < length rows → row ≡ get_or rows i row → All (HasNoOther ps) rows → HasNoOther ps row
no_other ps rows i row lt at others = subst (HasNoOther ps) (sym at) (others i row lt)

-- the tags of a sheet's rows from an index on are that of the row there and those of the others
pub sheet_next : (target : Target) (asked ps : List Property) (rows : List Row) (i : ℕ) (row : Row) (runs : List Run)
    → i < length rows → row ≡ get_or rows i row → All (HasNoOther ps) rows → AreRuns ps asked runs
    → sheet_bytes target asked (drop i rows) ≡ tag_by_runs target ps row runs ++ sheet_bytes target asked (drop (i + 1) rows)
sheet_next target asked ps rows i row runs lt at others are =
    let rest : List ℕ = sheet_bytes target asked (drop (i + 1) rows) in
    at_drop_more (sheet_bytes target asked) rows i row lt
    ∙ ap (λ r. spelling (row_tree asked (row_under_id target r)) ++ rest) (sym at)
    ∙ ap (λ bytes. bytes ++ rest) (sym (tag_is target asked ps row runs (no_other ps rows i row lt at others) are))

-- the id at an index is that of the row there
pub id_at : (rows : List Row) (ids : List ℕ) (i : ℕ) (row : Row) → ids ≡ ids_of rows → i < length rows → row ≡ get_or rows i row → get_or ids i 0 ≡ row.id
id_at rows ids i row own lt at =
    ap (λ ns. get_or ns i 0) own ∙ get_or-map (λ (r : Row). r.id) rows i row 0 lt ∙ ap (λ (r : Row). r.id) (sym at)

-- a row on a sheet has few bytes
pub is_sheet_row : (asked : List Property) (row : SheetRow) → row.index < length row.sheet.now.rows → row.shared.now ≡ get_or row.sheet.now.rows row.index row.shared.now
    → row.id ≡ row.shared.now.id → All HasValues row.sheet.now.rows → All (HasNoOther row.sheet.now.properties) row.sheet.now.rows → first_mentions asked ≡ asked
    → AreRuns row.sheet.now.properties asked row.runs.now → IsSheetRow row
is_sheet_row asked row lt at own values others once runs =
    let shared : Row = row.shared.now in
    let fit : HasValues shared = subst HasValues (sym at) (values row.index shared lt) in
    let other = no_other row.sheet.now.properties row.sheet.now.rows row.index shared lt at others in
    record {
      below = lt;
      there = sym at;
      numbered = own;
      within = runs.within;
      short = omega (arith, ap length (runs.spelled shared other), shown_short shared.item asked fit, once_short asked once);
    }

-- the tags of the runs from an index on are those of the run there and of the others
pub left_length : (ps : List Property) (row : Row) (runs : List Run) (i : ℕ) (d : Run) → i < length runs → length (runs_bytes ps row (drop i runs)) ≡ length (run_bytes ps row (get_or runs i d)) + length (runs_bytes ps row (drop (i + 1) runs))
left_length ps row runs i d lt =
    ap length (at_drop_more (runs_bytes ps row) runs i d lt) ∙ length-append (run_bytes ps row (get_or runs i d)) (runs_bytes ps row (drop (i + 1) runs))

-- ---- what comes before the properties of a row

-- it has a constant size
keys_front : (target : Target) (id : ℕ) → 8 + length (spellings (trees_of (keys (member_of target id) id))) ≡ front_length target
keys_front Items id = refl
keys_front (Container c) id = refl

-- and comes before what the runs have
pub tag_length : (target : Target) (row : SheetRow) → length (sheet_row_tag target row) ≡ front_length target + length (row_bytes row)
tag_length target row =
    let own : List ℕ = spellings (trees_of (keys (member_of target row.shared.now.id) row.shared.now.id)) in
    omega (arith, framed_length (code "mlit") (own ++ row_bytes row), length-append own (row_bytes row), keys_front target row.shared.now.id)

pieces : (page a b c d : List ℕ) → (page ++ ((a ++ b) ++ c)) ++ d ≡ page ++ (a ++ (b ++ (c ++ d)))
pieces page a b c d = simp append_assoc

-- so both are the tag of the row
pub tag_put : (target : Target) (row : SheetRow) (len id : ℕ) (page : List ℕ) → id ≡ row.shared.now.id → len ≡ length (sheet_row_tag target row)
    → (page ++ front_bytes target (len - 8) id) ++ row_bytes row ≡ page ++ sheet_row_tag target row
tag_put target row len id page own counted =
    let given : List ℕ = spellings (trees_of (keys (member_of target row.shared.now.id) row.shared.now.id)) in
    let n : len - 8 ≡ length (given ++ row_bytes row) = omega (arith, counted, framed_length (code "mlit") (given ++ row_bytes row)) in
    ap (λ k. (page ++ front_bytes target (len - 8) k) ++ row_bytes row) own
    ∙ ap (λ m. (page ++ front_bytes target m row.shared.now.id) ++ row_bytes row) n
    ∙ pieces page (code_bytes (code "mlit")) (to_be_bytes w32 (length (given ++ row_bytes row))) given (row_bytes row)

-- ---- the columns of a sheet

-- no rows have no bytes
columns_none : (asked : List Property) → sum_by (column_length []) asked ≡ 0
columns_none [] = refl
columns_none (p ∷ ps) = omega (arith, sum_by-cons (column_length []) p ps, columns_none ps)

-- a row more has the bytes of what it shows more
columns_next : (row : Row) (rows : List Row) (asked : List Property) → sum_by (column_length (row ∷ rows)) asked ≡ length (spellings (trees_of (shown row.item asked))) + sum_by (column_length rows) asked
columns_next row rows [] = refl
columns_next row rows (p ∷ ps) =
    omega (arith, sum_by-cons (column_length (row ∷ rows)) p ps, sum_by-cons (column_length rows) p ps, sum_by-cons (λ (r : Row). length (cell r.item p)) row rows, ap length (shown_cons row.item p ps), length-append (cell row.item p) (spellings (trees_of (shown row.item ps))), columns_next row rows ps)

-- each row shows few bytes
pub columns_short : (rows : List Row) (asked : List Property) → All HasValues rows → first_mentions asked ≡ asked → sum_by (column_length rows) asked ≤ 2549 * length rows
columns_short [] asked values once = omega (arith, columns_none asked)
columns_short (row ∷ rows) asked values once =
    omega (arith, columns_next row rows asked, shown_short row.item asked (values zero row (omega arith)), once_short asked once, columns_short rows asked (λ k d lt. values (suc k) d (omega arith)) once)

-- no row has a property that the sheet lacks
pub column_none : (rows : List Row) (ps : List Property) (p : Property) → All (HasNoOther ps) rows → mentions ps p ≡ false → column_length rows p ≡ 0
column_none [] ps p others h = refl
column_none (row ∷ rows) ps p others h =
    omega (arith, sum_by-cons (λ (r : Row). length (cell r.item p)) row rows, ap length (others zero row (omega arith) p h), column_none rows ps p (λ k d lt. others (suc k) d (omega arith)) h)

no_fronts : (target : Target) → front_length target * 0 ≡ 0
no_fronts Items = refl
no_fronts (Container c) = refl

front_more : (target : Target) (n : ℕ) → front_length target * suc n ≡ front_length target + front_length target * n
front_more Items n = omega arith
front_more (Container c) n = omega arith

-- the tags of a sheet's rows are as long as what comes before the properties and the columns
pub sheet_counted : (target : Target) (asked : List Property) (rows : List Row) → front_length target * length rows + sum_by (column_length rows) asked ≡ length (sheet_bytes target asked rows)
sheet_counted target asked [] = omega (arith, columns_none asked, no_fronts target)
sheet_counted target asked (row ∷ rows) =
    omega (arith, more_length (row_tree asked (row_under_id target row)) (trees_of (row_trees asked (map (row_under_id target) rows))), row_length row (member_of target row.id) asked, keys_front target row.id, front_more target (length rows), columns_next row rows asked, sheet_counted target asked rows)

-- ---- the sheets of a list

-- the rows on the sheets from an index on are those on the sheet there and on the others
pub sheets_next : {Z : Type 0} (target : Target) (ps : List Property) (sheets : List (Arc Spelled Z)) (i : ℕ) (sheet : Arc Spelled Z) (on : Spelled)
    → i < length sheets → sheet ≡ get_or sheets i sheet → on ≡ arc_value sheet
    → sheet_bytes target ps (rows_in (drop i sheets)) ≡ sheet_bytes target ps on.rows ++ sheet_bytes target ps (rows_in (drop (i + 1) sheets))
sheets_next target ps sheets i sheet on lt at is =
    let rest : List Row = rows_in (drop (i + 1) sheets) in
    at_drop_more (λ ss. sheet_bytes target ps (rows_in ss)) sheets i sheet lt
    ∙ ap (λ s. sheet_bytes target ps (rows_on s ++ rest)) (sym at)
    ∙ ap (λ (s : Spelled). sheet_bytes target ps (s.rows ++ rest)) (sym is)
    ∙ sheet_append target ps on.rows rest

pub sheets_next_length : {Z : Type 0} (target : Target) (ps : List Property) (sheets : List (Arc Spelled Z)) (i : ℕ) (sheet : Arc Spelled Z) (on : Spelled)
    → i < length sheets → sheet ≡ get_or sheets i sheet → on ≡ arc_value sheet
    → length (sheet_bytes target ps (rows_in (drop i sheets))) ≡ length (sheet_bytes target ps on.rows) + length (sheet_bytes target ps (rows_in (drop (i + 1) sheets)))
sheets_next_length target ps sheets i sheet on lt at is =
    ap length (sheets_next target ps sheets i sheet on lt at is)
    ∙ length-append (sheet_bytes target ps on.rows) (sheet_bytes target ps (rows_in (drop (i + 1) sheets)))

pub rows_next : {Z : Type 0} (sheets : List (Arc Spelled Z)) (i : ℕ) (sheet : Arc Spelled Z) (on : Spelled)
    → i < length sheets → sheet ≡ get_or sheets i sheet → on ≡ arc_value sheet
    → length (rows_in (drop i sheets)) ≡ length on.rows + length (rows_in (drop (i + 1) sheets))
rows_next sheets i sheet on lt at is =
    let rest : List Row = rows_in (drop (i + 1) sheets) in
    at_drop_more (λ ss. length (rows_in ss)) sheets i sheet lt
    ∙ ap (λ s. length (rows_on s ++ rest)) (sym at)
    ∙ ap (λ (s : Spelled). length (s.rows ++ rest)) (sym is)
    ∙ length-append on.rows rest

-- no more rows are left than there are
pub rows_left : {Z : Type 0} (sheets : List (Arc Spelled Z)) (i : ℕ) → length (rows_in (drop i sheets)) ≤ length (rows_in sheets)
rows_left [] zero = omega arith
rows_left [] (suc i) = omega arith
rows_left (s ∷ sheets) zero = omega arith
rows_left (s ∷ sheets) (suc i) = omega (arith, rows_left sheets i, length-append (rows_on s) (rows_in sheets))

-- rows under their ids are the rows of the sheets
rows_under_ids : (target : Target) (rows : List Row) → map (plan_row target) (by_id rows) ≡ map (row_under_id target) rows
rows_under_ids target [] = refl
rows_under_ids target (r ∷ rows) = ap (λ rs. row_under_id target r ∷ rs) (rows_under_ids target rows)

pub all_sheets : {Z : Type 0} (target : Target) (ps : List Property) (sheets : List (Arc Spelled Z)) (rows : List (ℕ × Row)) → by_id (rows_in sheets) ≡ rows → spellings (trees_of (row_trees ps (map (plan_row target) rows))) ≡ sheet_bytes target ps (rows_in sheets)
all_sheets target ps sheets rows h =
    ap (λ rs. spellings (trees_of (row_trees ps (map (plan_row target) rs)))) (sym h)
    ∙ ap (λ rs. spellings (trees_of (row_trees ps rs))) (rows_under_ids target (rows_in sheets))

pub all_count : {Z : Type 0} (sheets : List (Arc Spelled Z)) (rows : List (ℕ × Row)) → by_id (rows_in sheets) ≡ rows → length rows ≡ length (rows_in sheets)
all_count sheets rows h = ap length (sym h) ∙ length-map (rows_in sheets) (λ row. (row.id, row))

-- and a listing has them under their ids
pub under_ids_held : (target : Target) (meta : Meta) (rows : List Row) → rows_held (asked meta) (map (plan_row target) (by_id rows)) ≡ shown_rows target meta (by_id rows)
under_ids_held Items meta [] = refl
under_ids_held Items meta (r ∷ rows) = ap (λ rs. (r.id, row_tree (asked meta) (row_under_id Items r)) ∷ rs) (under_ids_held Items meta rows)
under_ids_held (Container c) meta [] = refl
under_ids_held (Container c) meta (r ∷ rows) = ap (λ rs. (r.id, row_tree (asked meta) (row_under_id (Container c) r)) ∷ rs) (under_ids_held (Container c) meta rows)
