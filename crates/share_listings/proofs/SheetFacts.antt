-- Rows taken from sheets: those in a window, and those that a query selects.
use Rattle.std.proofs.Common.{◌≡◌, ◌≤◌, ◌<◌, ◌+◌, ◌-◌, ◌++◌, ◌∷◌, [], ℕ, List, take, drop, filter, length, get_or, Option, sym, ap, ◌∙◌, ⊎_elim, append-nil, append_assoc, length-append, arith}
use Rattle.std.proofs.Math.Seq.{take-append-add, drop-append-add}
use Rattle.std.proofs.lemmas.Bool.{cases_lt}
use Rattle.std.proofs.lemmas.List.{take-append-le, drop-append-le, take_all, drop_all, drop-map, take-map, map-append, length-map}
use Rattle.std.proofs.lemmas.List.Elements.{filter-append}
use Rattle.std.specs.declared.sync.Arc.{Arc}
use Rattle.item_model.specs.declared.item.Row.{Row}
use Rattle.item_model.specs.declared.query.Query.{Query}
use Rattle.row_sheets.specs.Spelled.{Spelled}
use Rattle.row_sheets.specs.Sheets.{by_id, rows_on, rows_in}
use Rattle.share_history.specs.Rows.{is_selected}
use Rattle.share_history.proofs.EditFacts.{drop_more}

-- ---- windows

-- the elements from one index on, up to another
abbrev pub within : {A : Type 0} → ℕ → ℕ → List A → List A
within from to xs = drop from (take to xs)

take_on : {A : Type 0} (n : ℕ) (xs ys : List A) → take n (xs ++ ys) ≡ take n xs ++ take (n - length xs) ys
take_on n xs ys =
    ⊎_elim
    (λ lt. take-append-le n xs ys (let le : n ≤ length xs = omega (arith, lt) in le) ∙ sym (append-nil (take n xs))
    ∙ ap (λ m. take n xs ++ take m ys) (let none : 0 ≡ n - length xs = omega (arith, lt) in none))
    (λ ge. ap (λ m. take m (xs ++ ys)) (let parts : n ≡ length xs + (n - length xs) = omega (arith, ge) in parts) ∙ take-append-add xs ys (n - length xs)
    ∙ ap (λ front. front ++ take (n - length xs) ys) (sym (take_all n xs ge)))
    (cases_lt n (length xs))

drop_on : {A : Type 0} (n : ℕ) (xs ys : List A) → drop n (xs ++ ys) ≡ drop n xs ++ drop (n - length xs) ys
drop_on n xs ys =
    ⊎_elim
    (λ lt. drop-append-le n xs ys (let le : n ≤ length xs = omega (arith, lt) in le)
    ∙ ap (λ m. drop n xs ++ drop m ys) (let none : 0 ≡ n - length xs = omega (arith, lt) in none))
    (λ ge. ap (λ m. drop m (xs ++ ys)) (let parts : n ≡ length xs + (n - length xs) = omega (arith, ge) in parts) ∙ drop-append-add xs ys (n - length xs)
    ∙ ap (λ back. back ++ drop (n - length xs) ys) (sym (drop_all n xs ge)))
    (cases_lt n (length xs))

-- what is left of a window where it ends before the first elements do: nothing
none_left : {A : Type 0} (m n : ℕ) (ys : List A) → n ≡ 0 → drop m (take n ys) ≡ []
none_left m n ys none = ap (λ k. drop m (take k ys)) none ∙ drop_all m [] (omega arith)

-- where a part more is taken of what was left, the parts are still those of the whole
part_more : {A : Type 0} (first rest left old new all : List A) → left ≡ first ++ rest → new ≡ old ++ first → old ++ left ≡ all → new ++ rest ≡ all
part_more first rest left old new all parts added is =
    ap (λ l. l ++ rest) added ∙ append_assoc old first rest ∙ ap (λ l. old ++ l) (sym parts) ∙ is

-- the elements of joined lists in a window are those of each, in what is left of it
within-append : {A : Type 0} (from to : ℕ) (xs ys : List A) → within from to (xs ++ ys) ≡ within from to xs ++ within (from - length xs) (to - length xs) ys
within-append from to xs ys =
    ap (drop from) (take_on to xs ys) ∙ drop_on from (take to xs) (take (to - length xs) ys) ∙ ap (λ l. within from to xs ++ l) same
  where
    same : drop (from - length (take to xs)) (take (to - length xs) ys) ≡ within (from - length xs) (to - length xs) ys
    same =
        ⊎_elim
        (λ lt. let none : to - length xs ≡ 0 = omega (arith, lt) in
        none_left (from - length (take to xs)) (to - length xs) ys none ∙ sym (none_left (from - length xs) (to - length xs) ys none))
        (λ ge. ap (λ l. drop (from - length l) (take (to - length xs) ys)) (take_all to xs ge))
        (cases_lt to (length xs))

-- ---- sheets

by_id-append : (xs ys : List Row) → by_id (xs ++ ys) ≡ by_id xs ++ by_id ys
by_id-append xs ys = map-append (λ (row : Row). (row.id, row)) xs ys

by_id-length : (rows : List Row) → length (by_id rows) ≡ length rows
by_id-length rows = length-map rows (λ (row : Row). (row.id, row))

-- the rows on the sheets that are left are those on the next one and on those after it
pub sheet_more : {Z : Type 0} (sheets : List (Arc Spelled Z)) (i : ℕ) (sheet : Arc Spelled Z) → i < length sheets → sheet ≡ get_or sheets i sheet
    → by_id (rows_in (drop i sheets)) ≡ by_id (rows_on sheet) ++ by_id (rows_in (drop (i + 1) sheets))
sheet_more sheets i sheet lt is =
    ap (λ left. by_id (rows_in left)) (drop_more sheets i sheet lt is) ∙ by_id-append (rows_on sheet) (rows_in (drop (i + 1) sheets))

-- the same in a window
pub within_more : {Z : Type 0} (sheets : List (Arc Spelled Z)) (i : ℕ) (sheet : Arc Spelled Z) (rows : List Row) (from to from' to' : ℕ) (old new all : List (ℕ × Row))
    → i < length sheets → sheet ≡ get_or sheets i sheet → rows ≡ rows_on sheet
    → from' ≡ from - length rows → to' ≡ to - length rows → new ≡ old ++ within from to (by_id rows)
    → old ++ within from to (by_id (rows_in (drop i sheets))) ≡ all → new ++ within from' to' (by_id (rows_in (drop (i + 1) sheets))) ≡ all
within_more sheets i sheet rows from to from' to' old new all lt is on past_from past_to added so_far =
    let behind : List (ℕ × Row) = by_id (rows_in (drop (i + 1) sheets)) in
    let parts : by_id (rows_in (drop i sheets)) ≡ by_id rows ++ behind = sheet_more sheets i sheet lt is ∙ ap (λ rs. by_id rs ++ behind) (sym on) in
    let left : within from to (by_id (rows_in (drop i sheets))) ≡ within from to (by_id rows) ++ within from' to' behind =
    ap (within from to) parts ∙ within-append from to (by_id rows) behind
    ∙ (λ j. within from to (by_id rows) ++ within (from - by_id-length rows j) (to - by_id-length rows j) behind)
    ∙ (λ j. within from to (by_id rows) ++ within (sym past_from j) (sym past_to j) behind) in
    part_more (within from to (by_id rows)) (within from' to' behind) (within from to (by_id (rows_in (drop i sheets)))) old new all left added so_far

-- the rows of a part are a part of the rows
pub by_id-within : (from to : ℕ) (rows part : List Row) → part ≡ within from to rows → by_id part ≡ within from to (by_id rows)
by_id-within from to rows part is =
    ap by_id is ∙ sym (drop-map (λ (row : Row). (row.id, row)) from (take to rows)) ∙ ap (drop from) (sym (take-map (λ (row : Row). (row.id, row)) to rows))

-- a row more of some
pub row_more : (rows : List Row) (i : ℕ) (row : Row) (old new all : List (ℕ × Row)) → i < length rows → row ≡ get_or rows i row → new ≡ old ++ (row.id, row) ∷ []
    → old ++ by_id (drop i rows) ≡ all → new ++ by_id (drop (i + 1) rows) ≡ all
row_more rows i row old new all lt is added so_far =
    part_more ((row.id, row) ∷ []) (by_id (drop (i + 1) rows)) (by_id (drop i rows)) old new all (ap by_id (drop_more rows i row lt is)) added so_far

-- none are left behind the last one
pub rows_all : (rows : List Row) (i : ℕ) (found all : List (ℕ × Row)) → length rows ≤ i → found ++ by_id (drop i rows) ≡ all → found ≡ all
rows_all rows i found all past is = sym (append-nil found) ∙ ap (λ l. found ++ l) (sym (ap by_id (drop_all i rows past))) ∙ is

-- ---- queries

abbrev pub selected_by : Option Query → List (ℕ × Row) → List (ℕ × Row)
selected_by query rows = filter (λ row. is_selected query row.1) rows

-- the selected rows of one sheet more
pub selected_more : {Z : Type 0} (sheets : List (Arc Spelled Z)) (i : ℕ) (sheet : Arc Spelled Z) (rows : List Row) (query : Option Query) (old new all : List (ℕ × Row))
    → i < length sheets → sheet ≡ get_or sheets i sheet → rows ≡ rows_on sheet → new ≡ old ++ selected_by query (by_id rows)
    → old ++ selected_by query (by_id (rows_in (drop i sheets))) ≡ all → new ++ selected_by query (by_id (rows_in (drop (i + 1) sheets))) ≡ all
selected_more sheets i sheet rows query old new all lt is on added so_far =
    let behind : List (ℕ × Row) = by_id (rows_in (drop (i + 1) sheets)) in
    let parts : by_id (rows_in (drop i sheets)) ≡ by_id rows ++ behind = sheet_more sheets i sheet lt is ∙ ap (λ rs. by_id rs ++ behind) (sym on) in
    part_more (selected_by query (by_id rows)) (selected_by query behind) (selected_by query (by_id (rows_in (drop i sheets)))) old new all
    (ap (selected_by query) parts ∙ filter-append (λ row. is_selected query row.1) (by_id rows) behind) added so_far

-- and how many rows are left then
pub fewer_left : {Z : Type 0} (sheets : List (Arc Spelled Z)) (i : ℕ) (sheet : Arc Spelled Z) (rows : List Row)
    → i < length sheets → sheet ≡ get_or sheets i sheet → rows ≡ rows_on sheet
    → length (by_id (rows_in (drop i sheets))) ≡ length rows + length (by_id (rows_in (drop (i + 1) sheets)))
fewer_left sheets i sheet rows lt is on =
    ap length (sheet_more sheets i sheet lt is) ∙ length-append (by_id (rows_on sheet)) (by_id (rows_in (drop (i + 1) sheets)))
    ∙ ap (λ n. n + length (by_id (rows_in (drop (i + 1) sheets)))) (by_id-length (rows_on sheet) ∙ ap length (sym on))

-- the same of one row more
pub selected_row_more : (rows : List Row) (i : ℕ) (row : Row) (query : Option Query) (old new all : List (ℕ × Row)) → i < length rows → row ≡ get_or rows i row
    → new ≡ old ++ selected_by query ((row.id, row) ∷ [])
    → old ++ selected_by query (by_id (drop i rows)) ≡ all → new ++ selected_by query (by_id (drop (i + 1) rows)) ≡ all
selected_row_more rows i row query old new all lt is added so_far =
    part_more (selected_by query ((row.id, row) ∷ [])) (selected_by query (by_id (drop (i + 1) rows))) (selected_by query (by_id (drop i rows))) old new all
    (ap (λ rs. selected_by query (by_id rs)) (drop_more rows i row lt is)
    ∙ filter-append (λ row. is_selected query row.1) ((row.id, row) ∷ []) (by_id (drop (i + 1) rows))) added so_far
