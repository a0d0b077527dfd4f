-- How changes are applied: a piece of them, with the rows that they are of, after another.
use Rattle.std.proofs.Common.{◌≡◌, ◌≤◌, ◌<◌, ◌+◌, ◌-◌, ◌++◌, ℕ, max, arith, Bool, true, false, cond, List, [], ◌∷◌, refl, sym, ap, ◌∙◌, ⊎_elim, subst, Option, Some, None, unwrap_or, nat_cmp, is_eq, length, take, get_or}
use Rattle.std.specs.List.Sorted.{IsStrictlySortedBy}
use Rattle.item_model.specs.declared.item.Row.{Row}
use Rattle.share_history.specs.Keyed.{at, IsAscending}
use Rattle.share_history.proofs.KeyedFacts.{past_head, same_key, key_itself}
use Rattle.std.proofs.lemmas.Bool.{cases_lt}
use Rattle.std.proofs.lemmas.List.{map-append, take_all, take_more}
use Rattle.row_sheets.specs.Sheets.{by_id}
use Rattle.row_sheets.specs.Cells.{IsLast}
use Rattle.row_sheets.specs.Changes.{changed, new_rows, own_rows, AreChanges}
use Rattle.row_sheets.specs.Turns.{AreUnder, AreAbove, IsTurned, AreTurned}
use Rattle.row_sheets.proofs.PairFacts.{at_first, at_second, none_before, none_after, at_found, found_above, found_under, ascending_first, ascending_second, ascending_join, under_one, above_head, above_all, under_last, above_last}

-- an id that neither changes nor had a row has none
changed_none : (id : ℕ) (c : List (ℕ × Option Row)) (r : List (ℕ × Row)) → at id c ≡ None → at id r ≡ None → changed c r id ≡ None
changed_none id c r h k = ap (λ o. unwrap_or o (at id r)) h ∙ k

changed_first : (id : ℕ) (c d : List (ℕ × Option Row)) (r s : List (ℕ × Row)) → at id d ≡ None → at id s ≡ None → changed (c ++ d) (r ++ s) id ≡ changed c r id
changed_first id c d r s h k = λ i. unwrap_or (at_first id c d h i) (at_first id r s k i)

changed_second : (id : ℕ) (c d : List (ℕ × Option Row)) (r s : List (ℕ × Row)) → at id c ≡ None → at id r ≡ None → changed (c ++ d) (r ++ s) id ≡ changed d s id
changed_second id c d r s h k = λ i. unwrap_or (at_second id c d h i) (at_second id r s k i)

-- the first of some changes, and the others
pub first_changes : (c d : List (ℕ × Option Row)) → AreChanges (c ++ d) → AreChanges c
first_changes c d are = record {
  ascending = ascending_first c d are.ascending;
  own = λ id row h. are.own id row (at_found id c d (Some row) h);
}

pub later_changes : (next : ℕ) (c d : List (ℕ × Option Row)) → AreChanges (c ++ d) → AreUnder next c → AreAbove next d → AreChanges d
later_changes next c d are under above = record {
  ascending = ascending_second c d are.ascending;
  own = λ id row h. are.own id row (at_second id c d (under id (found_above next id d (Some row) above h)) ∙ h);
}

-- before the first step nothing is done
pub turned_start : (changes : List (ℕ × Option Row)) (rows : List (ℕ × Row)) → AreChanges changes → IsAscending rows → IsTurned (changed changes rows) [] changes rows
unfolding IsStrictlySortedBy
turned_start changes rows are s = record {
  bound = 0;
  ascending = tt;
  under = λ id le. refl;
  changes_are = are;
  changes_above = λ id lt. absurd (omega arith);
  rows_ascend = s;
  rows_above = λ id lt. absurd (omega arith);
  before = λ id lt. absurd (omega arith);
  after = λ id le. refl;
}

module _ (wanted : ℕ → Option Row) (done piece : List (ℕ × Row)) (c d : List (ℕ × Option Row)) (r s : List (ℕ × Row)) (t : IsTurned wanted done (c ++ d) (r ++ s)) (each : (id : ℕ) → at id piece ≡ changed c r id) where
  piece_above : AreAbove t.bound piece
  piece_above = λ id lt. each id ∙ changed_none id c r (none_before id c d (t.changes_above id lt)) (none_before id r s (t.rows_above id lt))

  -- one step: what the changes `c` leave of the rows `r` comes after what is done
  pub turned_next : (next : ℕ) → AreUnder next c → AreUnder next r → AreAbove next d → AreAbove next s → IsAscending piece → IsTurned wanted (done ++ piece) d s
  turned_next next uc ur ad sa asc = record {
    bound = max t.bound next;
    ascending = ascending_join t.bound done piece t.ascending asc t.under piece_above;
    under = λ id le. at_second id done piece (t.under id (omega (arith, le))) ∙ each id ∙ changed_none id c r (uc id (omega (arith, le))) (ur id (omega (arith, le)));
    changes_are = later_changes next c d t.changes_are uc ad;
    changes_above = λ id lt. ⊎_elim (λ l. none_after id c d (t.changes_above id l)) (λ l. ad id (omega (arith, lt, l))) (cases_lt id t.bound);
    rows_ascend = ascending_second r s t.rows_ascend;
    rows_above = λ id lt. ⊎_elim (λ l. none_after id r s (t.rows_above id l)) (λ l. sa id (omega (arith, lt, l))) (cases_lt id t.bound);
    before = λ id lt.
        ⊎_elim (λ l. t.before id l ∙ sym (at_first id done piece (piece_above id l)))
        (λ l. let n : id < next = omega (arith, lt, l) in
        t.after id l ∙ changed_first id c d r s (ad id n) (sa id n) ∙ sym (each id) ∙ sym (at_second id done piece (t.under id l)))
        (cases_lt id t.bound);
    after = λ id le. t.after id (omega (arith, le)) ∙ changed_second id c d r s (uc id (omega (arith, le))) (ur id (omega (arith, le)));
  }

module _ (wanted : ℕ → Option Row) (done piece : List (ℕ × Row)) (c : List (ℕ × Option Row)) (r : List (ℕ × Row)) (t : IsTurned wanted done c r) (each : (id : ℕ) → at id piece ≡ changed c r id) where
  last_above : AreAbove t.bound piece
  last_above = λ id lt. each id ∙ changed_none id c r (t.changes_above id lt) (t.rows_above id lt)

  -- the last step, with all that is left
  pub turned_end : IsAscending piece → AreTurned wanted (done ++ piece)
  turned_end asc = record {
    ascending = ascending_join t.bound done piece t.ascending asc t.under last_above;
    each = λ id.
        ⊎_elim (λ l. at_first id done piece (last_above id l) ∙ sym (t.before id l))
        (λ l. at_second id done piece (t.under id l) ∙ each id ∙ sym (t.after id l))
        (cases_lt id t.bound);
  }

-- ---- what changes leave of no rows, and of one row

cond_at : {A : Type 0} (t : Bool) (x : A) (o : Option A) → t ≡ true → cond t (Some x) o ≡ Some x
cond_at true x o h = refl
cond_at false x o h = absurd (cc)

found_head : {A : Type 0} (k : ℕ) (x : A) (es : List (ℕ × A)) → at k ((k, x) ∷ es) ≡ Some x
found_head k x es = cond_at (is_eq (nat_cmp k k)) x (at k es) (key_itself k)

single : {A : Type 0} (k : ℕ) (x : A) → IsAscending ((k, x) ∷ [])
unfolding IsStrictlySortedBy
single k x = (tt, tt)

drop_step : (t : Bool) (o : Option (Option Row)) → (t ≡ true → o ≡ None) → unwrap_or o None ≡ unwrap_or (cond t (Some None) o) None
drop_step true o h = ap (λ x. unwrap_or x None) (h refl)
drop_step false o h = refl

put_step : (t : Bool) (row : Row) (o : Option (Option Row)) (w : Option Row) → w ≡ unwrap_or o None → cond t (Some row) w ≡ unwrap_or (cond t (Some (Some row)) o) None
put_step true row o w h = refl
put_step false row o w h = h

-- the new rows ascend and are what the changes leave of no rows
record AreNew (c : List (ℕ × Option Row)) : Type 0 where
  ascending : IsAscending (by_id (new_rows c))
  each : (id : ℕ) → at id (by_id (new_rows c)) ≡ changed c [] id

new_step : (k : ℕ) (v : Option Row) (es : List (ℕ × Option Row)) → AreChanges ((k, v) ∷ es) → AreNew es → AreNew ((k, v) ∷ es)
new_step k None es are new = record {
  ascending = new.ascending;
  each = λ id. new.each id ∙ drop_step (is_eq (nat_cmp id k)) (at id es) (past_head id (k, None) es are.ascending);
}
new_step k (Some row) es are new =
    let own : row.id ≡ k = are.own k row (found_head k (Some row) es) in
    let above : AreAbove (row.id + 1) (by_id (new_rows es)) = λ id lt. new.each id ∙ ap (λ o. unwrap_or o None) (above_head (k, Some row) es are.ascending id (omega (arith, lt, own))) in
    record {
      ascending = ascending_join (row.id + 1) ((row.id, row) ∷ []) (by_id (new_rows es)) (single row.id row) new.ascending (under_one row.id row) above;
      each = λ id.
          ap (λ n. cond (is_eq (nat_cmp id n)) (Some row) (at id (by_id (new_rows es)))) own
          ∙ put_step (is_eq (nat_cmp id k)) row (at id es) (at id (by_id (new_rows es))) (new.each id);
    }

tail_changes : (e : ℕ × Option Row) (es : List (ℕ × Option Row)) → AreChanges (e ∷ es) → AreChanges es
tail_changes e es are = later_changes (e.0 + 1) (e ∷ []) es are (under_one e.0 e.1) (above_head e es are.ascending)

new_facts : (c : List (ℕ × Option Row)) → AreChanges c → AreNew c
unfolding IsStrictlySortedBy
new_facts [] are = record { ascending = tt; each = λ id. refl }
new_facts (e ∷ es) are = new_step e.0 e.1 es are (new_facts es (tail_changes e es are))

same_where : (t : Bool) (v : Option Row) (row : Row) (o : Option (Option Row)) → (t ≡ true → o ≡ Some v) → unwrap_or o None ≡ unwrap_or o (cond t (Some row) None)
same_where true v row o h = let e : o ≡ Some v = h refl in rw e refl
same_where false v row o h = refl

-- what the changes of a row's id leave of it
record AreOwn (row : Row) (c : List (ℕ × Option Row)) : Type 0 where
  ascending : IsAscending (by_id (own_rows row c))
  each : (id : ℕ) → at id (by_id (own_rows row c)) ≡ changed c ((row.id, row) ∷ []) id

own_facts : (row : Row) (c : List (ℕ × Option Row)) → AreChanges c → AreAbove row.id c → AreUnder (row.id + 1) c → AreOwn row c
own_facts row [] are above under = record { ascending = single row.id row; each = λ id. refl }
own_facts row (e ∷ es) are above under =
    let low : row.id ≤ e.0 = found_above row.id e.0 (e ∷ es) e.1 above (found_head e.0 e.1 es) in
    let high : e.0 < row.id + 1 = found_under (row.id + 1) e.0 (e ∷ es) e.1 under (found_head e.0 e.1 es) in
    let key : row.id ≡ e.0 = omega (arith, low, high) in
    let new : AreNew (e ∷ es) = new_facts (e ∷ es) are in
    record {
      ascending = new.ascending;
      each = λ id. new.each id
          ∙ same_where (is_eq (nat_cmp id row.id)) e.1 row (at id (e ∷ es)) (λ t. ap (λ n. at n (e ∷ es)) (same_key id row.id t ∙ key) ∙ found_head e.0 e.1 es);
    }

-- ---- a row with the changes up to its id

module _ (wanted : ℕ → Option Row) (done : List (ℕ × Row)) (below own left : List (ℕ × Option Row)) (row : Row) (rest : List (ℕ × Row)) (t : IsTurned wanted done (below ++ (own ++ left)) ((row.id, row) ∷ rest)) (ub : AreUnder row.id below) (af : AreAbove row.id (own ++ left)) where
  new : AreNew below
  new = new_facts below (first_changes below (own ++ left) t.changes_are)

  half : IsTurned wanted (done ++ by_id (new_rows below)) (own ++ left) ((row.id, row) ∷ rest)
  half = turned_next wanted done (by_id (new_rows below)) below (own ++ left) [] ((row.id, row) ∷ rest) t new.each row.id ub (λ id le. refl) af (above_all (row.id, row) rest t.rows_ascend) new.ascending

  pub row_turned : AreUnder (row.id + 1) own → AreAbove (row.id + 1) left → IsTurned wanted ((done ++ by_id (new_rows below)) ++ by_id (own_rows row own)) left rest
  row_turned uo al =
      let are : AreOwn row own = own_facts row own (first_changes own left half.changes_are) (λ id lt. none_before id own left (af id lt)) uo in
      turned_next wanted (done ++ by_id (new_rows below)) (by_id (own_rows row own)) own left ((row.id, row) ∷ []) rest half are.each (row.id + 1) uo (under_one row.id row) al (above_head (row.id, row) rest t.rows_ascend) are.ascending

-- the changes that are left after all rows
pub rest_turned : (wanted : ℕ → Option Row) (done : List (ℕ × Row)) (c : List (ℕ × Option Row)) → IsTurned wanted done c [] → AreTurned wanted (done ++ by_id (new_rows c))
rest_turned wanted done c t =
    let new : AreNew c = new_facts c t.changes_are in
    turned_end wanted done (by_id (new_rows c)) c [] t new.each new.ascending

-- ---- a sheet

-- in ascending order the rows of a sheet have ids up to that of the last one, and those that follow have higher ones
last_parts : (rows : List Row) (last : ℕ) (rest : List (ℕ × Row)) → 0 < length rows → IsLast rows last → IsAscending (by_id rows ++ rest) → AreUnder (last + 1) (by_id rows) × AreAbove (last + 1) rest
last_parts [] last rest some is s = absurd (omega arith)
last_parts (y ∷ ys) last rest some is s =
    let n : ℕ = length (y ∷ ys) - 1 in
    let x : Row = get_or (y ∷ ys) n y in
    let lt : n < length (y ∷ ys) = omega arith in
    let le : length (y ∷ ys) ≤ n + 1 = omega arith in
    let front : List Row = take n (y ∷ ys) in
    let e : y ∷ ys ≡ front ++ x ∷ [] = sym (take_all (n + 1) (y ∷ ys) le) ∙ take_more (y ∷ ys) n y lt in
    let f : by_id (y ∷ ys) ≡ by_id front ++ (x.id, x) ∷ [] = ap by_id e ∙ map-append (λ row. (row.id, row)) front (x ∷ []) in
    let t : IsAscending ((by_id front ++ (x.id, x) ∷ []) ++ rest) = subst (λ ps. IsAscending (ps ++ rest)) f s in
    let k : x.id ≡ last = sym (is y) in (
      subst (λ n. AreUnder (n + 1) (by_id (y ∷ ys))) k (subst (λ ps. AreUnder (x.id + 1) ps) (sym f) (under_last (by_id front) (x.id, x) rest t)),
      subst (λ n. AreAbove (n + 1) rest) k (above_last (by_id front) (x.id, x) rest t),
    )

-- a sheet that others follow, with the changes up to its last id
pub sheet_turned : (wanted : ℕ → Option Row) (done piece : List (ℕ × Row)) (c d : List (ℕ × Option Row)) (rows : List Row) (last : ℕ) (rest : List (ℕ × Row)) → IsTurned wanted done (c ++ d) (by_id rows ++ rest) → 0 < length rows → IsLast rows last
    → AreUnder (last + 1) c → AreAbove (last + 1) d → (AreChanges c → IsAscending (by_id rows) → AreTurned (changed c (by_id rows)) piece) → IsTurned wanted (done ++ piece) d rest
sheet_turned wanted done piece c d rows last rest t some is uc ad merged =
    let parts = last_parts rows last rest some is t.rows_ascend in
    let p : AreTurned (changed c (by_id rows)) piece = merged (first_changes c d t.changes_are) (ascending_first (by_id rows) rest t.rows_ascend) in
    turned_next wanted done piece c d (by_id rows) rest t p.each (last + 1) uc parts.0 ad parts.1 p.ascending

-- rows that no change touches stay as they are
pub same_turned : (rows : List (ℕ × Row)) → IsAscending rows → AreTurned (changed [] rows) rows
same_turned rows s = record { ascending = s; each = λ id. refl }

-- the last sheet, with all changes that are left
pub last_turned : (wanted : ℕ → Option Row) (done piece : List (ℕ × Row)) (c : List (ℕ × Option Row)) (r : List (ℕ × Row)) → IsTurned wanted done c r → (AreChanges c → IsAscending r → AreTurned (changed c r) piece) → AreTurned wanted (done ++ piece)
last_turned wanted done piece c r t merged =
    let p : AreTurned (changed c r) piece = merged t.changes_are t.rows_ascend in
    turned_end wanted done piece c r t p.each p.ascending
