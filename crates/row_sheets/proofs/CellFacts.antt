-- Where cells start, and the bytes between two starts.
use Rattle.std.proofs.Common.{◌≡◌, ◌≤◌, ◌<◌, ◌+◌, ◌-◌, ◌*◌, ◌++◌, ℕ, zero, suc, arith, List, [], ◌∷◌, length, get_or, take, drop, map, refl, sym, ap, ◌∙◌, subst, append_assoc, append-nil, length-append, ⊎_elim}
use Rattle.std.proofs.lemmas.List.{take_more, map_more, get_or_default, drop_all, take_at, drop_at, take-append-drop, take-take, drop-take, drop-drop, drop-append-le, take-append-le, drop-map, take-map, drop_more, length-map, length-drop, length-take-le}
use Rattle.std.proofs.lemmas.List.Sums.{sum_by_more}
use Rattle.std.proofs.lemmas.List.Concat.{flat_map-append}
use Rattle.std.proofs.lemmas.Bool.{cases_lt}
use Rattle.std.proofs.Math.Nat.{suc-mul}
use Rattle.item_model.specs.declared.item.PropValue.{PropValue}
use Rattle.item_model.specs.declared.item.Row.{Row}
use Rattle.item_model.specs.declared.property.Property.{Property}
use Rattle.row_sheets.specs.Cells.{cell, row_cells, cells_of, joined, column_length, starts_of, AreCells}

joined_append : (a b : List (List ℕ)) → joined (a ++ b) ≡ joined a ++ joined b
joined_append a b = flat_map-append (λ c. c) a b

-- one cell more has one start more
starts_more : (n : ℕ) (cs : List (List ℕ)) (c : List ℕ) → starts_of n (cs ++ c ∷ []) ≡ starts_of n cs ++ (n + length (joined cs) + length c) ∷ []
starts_more n [] c = let e : n + length c ≡ n + 0 + length c = omega arith in ap (λ m. n ∷ m ∷ []) e
starts_more n (x ∷ cs) c =
    let e : n + length x + length (joined cs) + length c ≡ n + length (x ++ joined cs) + length c = omega (arith, length-append x (joined cs)) in
    ap (λ starts. n ∷ starts) (starts_more (n + length x) cs c ∙ ap (λ m. starts_of (n + length x) cs ++ m ∷ []) e)

-- no cells, with one start
pub no_cells : (bytes starts : List ℕ) → bytes ≡ [] → starts ≡ 0 ∷ [] → AreCells [] bytes starts
no_cells bytes starts e f = record { spelled = e; begin = f }

-- one cell more, whose bytes and end come last
pub cells_more : (done : List (List ℕ)) (c bytes starts bytes' starts' : List ℕ) (end : ℕ) → AreCells done bytes starts → bytes' ≡ bytes ++ c → end ≡ length bytes' → starts' ≡ starts ++ end ∷ [] → AreCells (done ++ c ∷ []) bytes' starts'
cells_more done c bytes starts bytes' starts' end are e f g = record {
  spelled = e ∙ ap (λ bs. bs ++ c) are.spelled ∙ ap (λ cs. joined done ++ cs) (sym (append-nil c)) ∙ sym (joined_append done (c ∷ []));
  begin =
      let n : end ≡ 0 + length (joined done) + length c = omega (arith, f, ap length e, length-append bytes c, ap length are.spelled) in
      g ∙ ap (λ ss. ss ++ end ∷ []) are.begin ∙ ap (λ m. starts_of 0 done ++ m ∷ []) n ∙ sym (starts_more 0 done c);
}

-- a cell starts where the cells before it end
starts_at : (n : ℕ) (cs : List (List ℕ)) (m d : ℕ) → m ≤ length cs → get_or (starts_of n cs) m d ≡ n + length (joined (take m cs))
starts_at n [] zero d le = let e : n ≡ n + 0 = omega arith in e
starts_at n [] (suc m) d le = absurd (omega arith)
starts_at n (c ∷ cs) zero d le = let e : n ≡ n + 0 = omega arith in e
starts_at n (c ∷ cs) (suc m) d le =
    let e : n + length c + length (joined (take m cs)) ≡ n + length (c ++ joined (take m cs)) = omega (arith, length-append c (joined (take m cs))) in
    starts_at (n + length c) cs m d (omega arith) ∙ e

starts_length : (n : ℕ) (cs : List (List ℕ)) → length (starts_of n cs) ≡ length cs + 1
starts_length n [] = omega arith
starts_length n (c ∷ cs) = omega (arith, starts_length (n + length c) cs)

take_more_cells : (m k : ℕ) (cs : List (List ℕ)) → take (m + k) cs ≡ take m cs ++ take k (drop m cs)
take_more_cells m k cs =
    let le : m ≤ m + k = omega arith in
    sym (take-append-drop m (take (m + k) cs)) ∙ ap (λ a. a ++ drop m (take (m + k) cs)) (take-take m (m + k) cs le)
    ∙ ap (λ b. take m cs ++ b) (drop-take m k cs)

-- how many bytes some cells have
abbrev size : List (List ℕ) → ℕ
size cs = length (joined cs)

size_more : (m k : ℕ) (cs : List (List ℕ)) → size (take (m + k) cs) ≡ size (take m cs) + size (take k (drop m cs))
size_more m k cs = ap size (take_more_cells m k cs) ∙ ap length (joined_append (take m cs) (take k (drop m cs))) ∙ length-append (joined (take m cs)) (joined (take k (drop m cs)))

drop_cells : (m : ℕ) (cs : List (List ℕ)) → drop (size (take m cs)) (joined cs) ≡ joined (drop m cs)
drop_cells m cs =
    ap (λ xs. drop (size (take m cs)) (joined xs)) (sym (take-append-drop m cs)) ∙ ap (drop (size (take m cs))) (joined_append (take m cs) (drop m cs))
    ∙ drop_at (joined (take m cs)) (joined (drop m cs)) (size (take m cs)) refl

take_cells : (k : ℕ) (cs : List (List ℕ)) → take (size (take k cs)) (joined cs) ≡ joined (take k cs)
take_cells k cs =
    ap (λ xs. take (size (take k cs)) (joined xs)) (sym (take-append-drop k cs)) ∙ ap (take (size (take k cs))) (joined_append (take k cs) (drop k cs))
    ∙ take_at (joined (take k cs)) (joined (drop k cs)) (size (take k cs)) refl

size_all : (m : ℕ) (cs : List (List ℕ)) → size (take m cs) ≤ size cs
size_all m cs = omega (arith, ap size (take-append-drop m cs), ap length (joined_append (take m cs) (drop m cs)), length-append (joined (take m cs)) (joined (drop m cs)))

-- what holds of each of the first elements, and of one more
pub each_more : {X : Type 0} (P : X → Type 0) (xs : List X) (i : ℕ) (e : X) → i < length xs → ((k : ℕ) (d : X) → k < i → P (get_or xs k d)) → P (get_or xs i e) → (k : ℕ) (d : X) → k < i + 1 → P (get_or xs k d)
each_more P xs i e lt before here k d less =
    ⊎_elim (λ l. before k d l)
    (λ l. let same : i ≡ k = omega (arith, l, less) in subst (λ n. P (get_or xs n d)) same (subst P (get_or_default xs i e d lt) here))
    (cases_lt k i)

-- ---- the cells of rows

-- one property more of a row
pub row_more : (done : List (List ℕ)) (item : List (Property × PropValue)) (ps : List Property) (i : ℕ) (d : Property) → i < length ps → (done ++ map (cell item) (take i ps)) ++ cell item (get_or ps i d) ∷ [] ≡ done ++ map (cell item) (take (i + 1) ps)
row_more done item ps i d lt =
    append_assoc done (map (cell item) (take i ps)) (cell item (get_or ps i d) ∷ []) ∙ ap (λ cs. done ++ cs) (sym (map_more (cell item) ps i d lt))

-- one row more
pub rows_more : (ps : List Property) (rows : List Row) (i : ℕ) (d : Row) → i < length rows → cells_of ps (take i rows) ++ row_cells ps (get_or rows i d) ≡ cells_of ps (take (i + 1) rows)
rows_more ps rows i d lt =
    ap (λ cs. cells_of ps (take i rows) ++ cs) (sym (append-nil (row_cells ps (get_or rows i d)))) ∙ sym (flat_map-append (row_cells ps) (take i rows) (get_or rows i d ∷ []))
    ∙ ap (cells_of ps) (sym (take_more rows i d lt))

rows_length : (ps : List Property) (rows : List Row) → length (cells_of ps rows) ≡ length rows * length ps
rows_length ps [] = let e : 0 ≡ 0 * length ps = omega arith in e
rows_length ps (row ∷ rows) =
    length-append (row_cells ps row) (cells_of ps rows)
    ∙ (let e : length (row_cells ps row) + length (cells_of ps rows) ≡ length rows * length ps + length ps = omega (arith, length-map ps (cell row.item), rows_length ps rows) in e)
    ∙ sym (suc-mul (length rows) (length ps))

-- after the cells of some rows come those of the others
rows_left : (ps : List Property) (rows : List Row) (i : ℕ) → drop (i * length ps) (cells_of ps rows) ≡ cells_of ps (drop i rows)
rows_left ps rows zero = let e : 0 * length ps ≡ 0 = omega arith in ap (λ n. drop n (cells_of ps rows)) e
rows_left ps [] (suc i) = drop_all (suc i * length ps) [] (omega arith)
rows_left ps (row ∷ rows) (suc i) =
    let e : suc i * length ps ≡ length ps + i * length ps = omega (arith, suc-mul i (length ps)) in
    ap (λ n. drop n (row_cells ps row ++ cells_of ps rows)) e ∙ sym (drop-drop (i * length ps) (length ps) (row_cells ps row ++ cells_of ps rows))
    ∙ ap (drop (i * length ps)) (drop_at (row_cells ps row) (cells_of ps rows) (length ps) (length-map ps (cell row.item)))
    ∙ rows_left ps rows i

-- some cells in the middle of a row
row_part : (ps : List Property) (rows : List Row) (i from k : ℕ) (d : Row) → i < length rows → from + k ≤ length ps → take k (drop (i * length ps + from) (cells_of ps rows)) ≡ row_cells (take k (drop from ps)) (get_or rows i d)
row_part ps rows i from k d lt le =
    let row : Row = get_or rows i d in
    let wide : length (row_cells ps row) ≡ length ps = length-map ps (cell row.item) in
    let le1 : from ≤ length (row_cells ps row) = omega (arith, wide, le) in
    let le2 : k ≤ length (drop from (row_cells ps row)) = omega (arith, length-drop from (row_cells ps row), wide, le) in
    ap (take k)
    (sym (drop-drop from (i * length ps) (cells_of ps rows)) ∙ ap (drop from) (rows_left ps rows i ∙ ap (cells_of ps) (drop_more rows i d lt))
    ∙ drop-append-le from (row_cells ps row) (cells_of ps (drop (i + 1) rows)) le1)
    ∙ take-append-le k (drop from (row_cells ps row)) (cells_of ps (drop (i + 1) rows)) le2
    ∙ ap (take k) (drop-map (cell row.item) from ps) ∙ take-map (cell row.item) k (drop from ps)

-- ---- the bytes between two starts in a row

module _ (ps : List Property) (rows : List Row) (bytes starts : List ℕ) (are : AreCells (cells_of ps rows) bytes starts) (row from to : ℕ) (lt : row < length rows) (le : from ≤ to) (within : to ≤ length ps) where
  abbrev cells : List (List ℕ)
  cells = cells_of ps rows

  abbrev first : ℕ
  first = row * length ps + from

  wide : row * length ps + to ≤ length cells
  wide =
      let more : suc row ≤ length rows = omega arith in
      let all : suc row * length ps ≤ length rows * length ps = grind arith in
      omega (arith, rows_length ps rows, all, suc-mul row (length ps), within)

  start_at : (m : ℕ) → m ≤ length cells → get_or starts m 0 ≡ size (take m cells)
  start_at m h = ap (λ ss. get_or ss m 0) are.begin ∙ starts_at 0 cells m 0 h ∙ (let e : 0 + size (take m cells) ≡ size (take m cells) = omega arith in e)

  pub part_within : row * length ps + to < length starts
  part_within = omega (arith, ap length are.begin, starts_length 0 cells, wide)

  ends : row * length ps + to ≡ first + (to - from)
  ends = omega arith

  between : size (take (row * length ps + to) cells) ≡ size (take first cells) + size (take (to - from) (drop first cells))
  between = ap (λ m. size (take m cells)) ends ∙ size_more first (to - from) cells

  first_start : get_or starts first 0 ≡ size (take first cells)
  first_start = start_at first (omega (arith, wide, le))

  last_start : get_or starts (row * length ps + to) 0 ≡ size (take (row * length ps + to) cells)
  last_start = start_at (row * length ps + to) wide

  pub part_order : get_or starts first 0 ≤ get_or starts (row * length ps + to) 0
  part_order = omega (arith, first_start, last_start, between)

  pub part_end : get_or starts (row * length ps + to) 0 ≤ length bytes
  part_end = omega (arith, last_start, ap length are.spelled, size_all (row * length ps + to) cells)

  count : get_or starts (row * length ps + to) 0 - get_or starts first 0 ≡ size (take (to - from) (drop first cells))
  count = omega (arith, first_start, last_start, between)

  -- they are among the bytes from the first start on
  pub part_fits : (len : ℕ) (behind : List ℕ) → len ≡ get_or starts (row * length ps + to) 0 - get_or starts first 0 → behind ≡ drop (get_or starts first 0) bytes → len ≤ length behind
  part_fits len behind e f = omega (arith, e, ap length f, length-drop (get_or starts first 0) bytes, part_order, part_end)

  -- the bytes between the two are those of the cells between them
  pub part_is : (d : Row) → take (get_or starts (row * length ps + to) 0 - get_or starts first 0) (drop (get_or starts first 0) bytes) ≡ joined (row_cells (take (to - from) (drop from ps)) (get_or rows row d))
  part_is d =
      let fits : from + (to - from) ≤ length ps = omega (arith, le, within) in
      ap (λ n. take n (drop (get_or starts first 0) bytes)) count
      ∙ ap (λ n. take (size (take (to - from) (drop first cells))) (drop n bytes)) first_start
      ∙ ap (λ bs. take (size (take (to - from) (drop first cells))) (drop (size (take first cells)) bs)) are.spelled
      ∙ ap (take (size (take (to - from) (drop first cells)))) (drop_cells first cells)
      ∙ take_cells (to - from) (drop first cells) ∙ ap joined (row_part ps rows row from (to - from) d lt fits)

-- ---- the cells of a column

-- where one property's cell is read, its length is found
pub cell_length : (ps : List Property) (index len : ℕ) (bytes : List ℕ) (row : Row) (d : Property) → index < length ps → len ≤ length bytes → take len bytes ≡ joined (row_cells (take (index + 1 - index) (drop index ps)) row) → len ≡ length (cell row.item (get_or ps index d))
cell_length ps index len bytes row d lt fits h =
    let one : index + 1 - index ≡ 1 = omega arith in
    sym (length-take-le len bytes fits) ∙ ap length h ∙ ap (λ n. size (row_cells (take n (drop index ps)) row)) one
    ∙ ap (λ qs. size (row_cells (take 1 qs) row)) (drop_more ps index d lt) ∙ ap length (append-nil (cell row.item (get_or ps index d)))

-- one row more
pub column_more : (rows : List Row) (p : Property) (i len sum : ℕ) (d : Row) → i < length rows → len ≡ length (cell (get_or rows i d).item p) → sum ≡ column_length (take i rows) p + len → sum ≡ column_length (take (i + 1) rows) p
column_more rows p i len sum d lt e f =
    f ∙ ap (λ n. column_length (take i rows) p + n) e ∙ sym (sum_by_more (λ (row : Row). length (cell row.item p)) rows i d lt)
