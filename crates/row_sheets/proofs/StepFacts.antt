-- The steps of the code that applies changes, over rows as the code has them.
use Rattle.std.proofs.Common.{◌≡◌, ◌<◌, ◌+◌, ◌++◌, ℕ, List, [], ◌∷◌, length, take, drop, sym, ap, ◌∙◌, subst, get_or, append_assoc, Global, Option}
use Rattle.std.proofs.lemmas.List.{take-append-drop, drop-drop, at_drop_more}
use Rattle.std.specs.Arc.{arc_value}
use Rattle.std.specs.declared.sync.Arc.{Arc}
use Rattle.item_model.specs.declared.item.Row.{Row}
use Rattle.share_history.specs.Keyed.{IsAscending}
use Rattle.row_sheets.specs.Spelled.{Spelled}
use Rattle.row_sheets.specs.Sheets.{by_id, rows_on, rows_in}
use Rattle.row_sheets.specs.Changes.{changed, new_rows, own_rows, AreChanges}
use Rattle.row_sheets.specs.Cells.{IsLast}
use Rattle.row_sheets.specs.Turns.{AreUnder, AreAbove, IsTurned, AreTurned}
use Rattle.row_sheets.proofs.PairFacts.{ascending_second}
use Rattle.row_sheets.proofs.TurnFacts.{turned_start, row_turned, rest_turned, sheet_turned, last_turned, same_turned}
use Rattle.row_sheets.proofs.SheetFacts.{ids_append, in_push}

-- the changes that a count tells apart
module _ (changes : List (ℕ × Option Row)) (k : ℕ) where
  split : changes ≡ take k changes ++ drop k changes
  split = sym (take-append-drop k changes)

  left_ascends : IsAscending changes → IsAscending (drop k changes)
  left_ascends s = ascending_second (take k changes) (drop k changes) (subst IsAscending split s)

-- a row, with the new rows of the changes before it and what those of its own id leave of it
pub row_step : (wanted : ℕ → Option Row) (old new : List Row) (changes below from own : List (ℕ × Option Row)) (k m count : ℕ) (row : Row) (rest : List (ℕ × Row))
    → below ≡ take k changes → from ≡ drop k changes → own ≡ take m from → new ≡ (old ++ new_rows below) ++ own_rows row own → count ≡ k + m
    → AreUnder row.id (take k changes) → (IsAscending changes → AreAbove row.id (drop k changes))
    → AreUnder (row.id + 1) (take m from) → (IsAscending from → AreAbove (row.id + 1) (drop m from))
    → IsTurned wanted (by_id old) changes ((row.id, row) ∷ rest) → IsTurned wanted (by_id new) (drop count changes) rest
row_step wanted old new changes below from own k m count row rest b f o e n ub af uo al t =
    let whole : changes ≡ below ++ (own ++ drop m from) = split changes k ∙ (λ i. sym b i ++ sym f i) ∙ ap (λ cs. below ++ cs) (sym (take-append-drop m from) ∙ ap (λ cs. cs ++ drop m from) (sym o)) in
    let ids : by_id new ≡ (by_id old ++ by_id (new_rows below)) ++ by_id (own_rows row own) = ap by_id e ∙ ids_append (old ++ new_rows below) (own_rows row own) ∙ ap (λ ps. ps ++ by_id (own_rows row own)) (ids_append old (new_rows below)) in
    let left : drop m from ≡ drop count changes = ap (drop m) f ∙ drop-drop m k changes ∙ ap (λ j. drop j changes) (sym n) in
    let ascends : IsAscending from = subst IsAscending (sym f) (left_ascends changes k t.changes_are.ascending) in
    let later_is : own ++ drop m from ≡ drop k changes = ap (λ cs. cs ++ drop m from) o ∙ take-append-drop m from ∙ f in
    let done : IsTurned wanted ((by_id old ++ by_id (new_rows below)) ++ by_id (own_rows row own)) (drop m from) rest =
    row_turned wanted (by_id old) below own (drop m from) row rest (subst (λ cs. IsTurned wanted (by_id old) cs ((row.id, row) ∷ rest)) whole t) (subst (AreUnder row.id) (sym b) ub)
    (subst (AreAbove row.id) (sym later_is) (af t.changes_are.ascending)) (subst (AreUnder (row.id + 1)) (sym o) uo) (al ascends) in
    subst (λ ps. IsTurned wanted ps (drop count changes) rest) (sym ids) (subst (λ cs. IsTurned wanted ((by_id old ++ by_id (new_rows below)) ++ by_id (own_rows row own)) cs rest) left done)

-- the next row of a loop over rows
pub next_row : (wanted : ℕ → Option Row) (old new rows : List Row) (changes left : List (ℕ × Option Row)) (next n i : ℕ) (row : Row) → left ≡ drop next changes → row ≡ get_or rows i row → i < length rows
    → ((rest : List (ℕ × Row)) → IsTurned wanted (by_id old) left ((row.id, row) ∷ rest) → IsTurned wanted (by_id new) (drop n left) rest)
    → IsTurned wanted (by_id old) (drop next changes) (by_id (drop i rows)) → IsTurned wanted (by_id new) (drop (next + n) changes) (by_id (drop (i + 1) rows))
next_row wanted old new rows changes left next n i row l is lt step t =
    let rest : List (ℕ × Row) = by_id (drop (i + 1) rows) in
    let here : by_id (drop i rows) ≡ (row.id, row) ∷ rest = at_drop_more by_id rows i row lt ∙ ap (λ (r : Row). (r.id, r) ∷ rest) (sym is) in
    let before : IsTurned wanted (by_id old) left ((row.id, row) ∷ rest) = subst (λ cs. IsTurned wanted (by_id old) cs ((row.id, row) ∷ rest)) (sym l) (subst (IsTurned wanted (by_id old) (drop next changes)) here t) in
    let later : drop n left ≡ drop (next + n) changes = ap (drop n) l ∙ drop-drop n next changes in
    subst (λ cs. IsTurned wanted (by_id new) cs rest) later (step rest before)

-- the next sheet of a loop over sheets
pub next_sheet : (wanted : ℕ → Option Row) (old new : List Row) (sheets : List (Arc Spelled Global)) (changes left : List (ℕ × Option Row)) (next n i : ℕ) (sheet : Arc Spelled Global) (rest : List (ℕ × Row)) → left ≡ drop next changes → sheet ≡ get_or sheets i sheet → i < length sheets
    → ((rest : List (ℕ × Row)) → IsTurned wanted (by_id old) left (by_id (rows_on sheet) ++ rest) → IsTurned wanted (by_id new) (drop n left) rest)
    → IsTurned wanted (by_id old) (drop next changes) (by_id (rows_in (drop i sheets)) ++ rest) → IsTurned wanted (by_id new) (drop (next + n) changes) (by_id (rows_in (drop (i + 1) sheets)) ++ rest)
next_sheet wanted old new sheets changes left next n i sheet rest l is lt step t =
    let more : List (ℕ × Row) = by_id (rows_in (drop (i + 1) sheets)) ++ rest in
    let here : by_id (rows_in (drop i sheets)) ++ rest ≡ by_id (rows_on sheet) ++ more =
    ap (λ ps. ps ++ rest)
    (at_drop_more (λ ss. by_id (rows_in ss)) sheets i sheet lt ∙ ap (λ s. by_id (rows_on s ++ rows_in (drop (i + 1) sheets))) (sym is) ∙ ids_append (rows_on sheet) (rows_in (drop (i + 1) sheets)))
    ∙ append_assoc (by_id (rows_on sheet)) (by_id (rows_in (drop (i + 1) sheets))) rest in
    let before : IsTurned wanted (by_id old) left (by_id (rows_on sheet) ++ more) = subst (λ cs. IsTurned wanted (by_id old) cs (by_id (rows_on sheet) ++ more)) (sym l) (subst (IsTurned wanted (by_id old) (drop next changes)) here t) in
    let later : drop n left ≡ drop (next + n) changes = ap (drop n) l ∙ drop-drop n next changes in
    subst (λ cs. IsTurned wanted (by_id new) cs more) later (step more before)

-- the new rows of the changes that are left after all rows
pub rest_step : (wanted : ℕ → Option Row) (old new : List Row) (changes : List (ℕ × Option Row)) → new ≡ old ++ new_rows changes → IsTurned wanted (by_id old) changes [] → AreTurned wanted (by_id new)
rest_step wanted old new changes e t =
    subst (AreTurned wanted) (sym (ap by_id e ∙ ids_append old (new_rows changes))) (rest_turned wanted (by_id old) changes t)

-- a sheet that others follow
pub sheet_step : (wanted : ℕ → Option Row) (old new rows piece : List Row) (changes own : List (ℕ × Option Row)) (k last : ℕ) (rest : List (ℕ × Row))
    → own ≡ take k changes → new ≡ old ++ piece → 0 < length rows → IsLast rows last
    → AreUnder (last + 1) (take k changes) → (IsAscending changes → AreAbove (last + 1) (drop k changes))
    → (AreChanges own → IsAscending (by_id rows) → AreTurned (changed own (by_id rows)) (by_id piece))
    → IsTurned wanted (by_id old) changes (by_id rows ++ rest) → IsTurned wanted (by_id new) (drop k changes) rest
sheet_step wanted old new rows piece changes own k last rest o e some is uc ad merged t =
    subst (λ ps. IsTurned wanted ps (drop k changes) rest) (sym (ap by_id e ∙ ids_append old piece))
    (sheet_turned wanted (by_id old) (by_id piece) (take k changes) (drop k changes) rows last rest (subst (λ cs. IsTurned wanted (by_id old) cs (by_id rows ++ rest)) (split changes k) t) some is uc (ad t.changes_are.ascending)
    (subst (λ cs. AreChanges cs → IsAscending (by_id rows) → AreTurned (changed cs (by_id rows)) (by_id piece)) o merged))

-- the last sheet
pub last_step : (wanted : ℕ → Option Row) (old new piece : List Row) (changes : List (ℕ × Option Row)) (r : List (ℕ × Row)) → new ≡ old ++ piece → (AreChanges changes → IsAscending r → AreTurned (changed changes r) (by_id piece)) → IsTurned wanted (by_id old) changes r → AreTurned wanted (by_id new)
last_step wanted old new piece changes r e merged t =
    subst (AreTurned wanted) (sym (ap by_id e ∙ ids_append old piece)) (last_turned wanted (by_id old) (by_id piece) changes r t merged)

-- rows that no change touches stay as they are
pub kept_rows : (rows : List Row) (changes : List (ℕ × Option Row)) → changes ≡ [] → AreChanges changes → IsAscending (by_id rows) → AreTurned (changed changes (by_id rows)) (by_id rows)
kept_rows rows changes none are s = subst (λ cs. AreTurned (changed cs (by_id rows)) (by_id rows)) (sym none) (same_turned (by_id rows) s)

-- one owner more of a sheet
pub sheet_shared : (turned : List (Arc Spelled Global)) (sheet clone : Arc Spelled Global) → arc_value clone ≡ arc_value sheet → rows_in (turned ++ clone ∷ []) ≡ rows_in turned ++ rows_on sheet
sheet_shared turned sheet clone e = in_push turned clone ∙ ap (λ (s : Spelled). rows_in turned ++ s.rows) e

-- before the first sheet
pub sheets_start : (sheets front : List (Arc Spelled Global)) (last : Arc Spelled Global) (old : List Row) (changes : List (ℕ × Option Row)) → sheets ≡ front ++ last ∷ [] → old ≡ [] → AreChanges changes → IsAscending (by_id (rows_in sheets))
    → IsTurned (changed changes (by_id (rows_in sheets))) (by_id old) changes (by_id (rows_in front) ++ by_id (rows_on last))
sheets_start sheets front last old changes e none are s =
    let wanted : ℕ → Option Row = changed changes (by_id (rows_in sheets)) in
    let parts : by_id (rows_in sheets) ≡ by_id (rows_in front) ++ by_id (rows_on last) = ap (λ ss. by_id (rows_in ss)) e ∙ ap by_id (in_push front last) ∙ ids_append (rows_in front) (rows_on last) in
    subst (λ rows. IsTurned wanted (by_id rows) changes (by_id (rows_in front) ++ by_id (rows_on last))) (sym none)
    (subst (IsTurned wanted [] changes) parts (turned_start changes (by_id (rows_in sheets)) are s))
