-- Rows that are put under ids that are not held, removed again, and put under ids that are held.
use Rattle.std.proofs.Common.{◌≡◌, ◌+◌, ◌<◌, ℕ, zero, suc, Bool, true, false, cond, not, List, [], ◌∷◌, ◌++◌, append_assoc, append-nil, fold, take, drop, length, get_or, Option, Some, None, is_some, is_none, nat_cmp, is_eq, refl, sym, ap, ◌∙◌}
use Rattle.std.specs.Map.{keys_of}
use Rattle.std.specs.Option.{option_or}
use Rattle.std.proofs.lemmas.List.{take_more, at_drop_more}
use Rattle.std.proofs.lemmas.List.Elements.{filter-append}
use Rattle.std.proofs.lemmas.List.Sums.{fold-append}
use Rattle.item_model.specs.declared.item.Row.{Row}
use Rattle.share_history.specs.Keyed.{at, put_in, taken_out, IsAscending}
use Rattle.share_history.proofs.KeyedFacts.{same_pairs, at-put, at-puts, ascending-puts, at-outs, ascending-outs, at-filter, ascending-filter, has-keys_of}
use Rattle.relayed_rows.specs.Libraries.{Library}
use Rattle.relayed_rows.specs.Differences.{has_row, new_rows}
use Rattle.relayed_rows.specs.Changes.{Change, rows_in, fresh_rows}
use Rattle.relayed_rows.specs.Held.{AreFresh, AreHeld}
use Rattle.relayed_rows.proofs.LibraryFacts.{holds_of_all}

-- the next of the items that are left is folded
pub folded_next : {A B : Type 0} (f : B → A → B) (b : B) (xs : List A) (i : ℕ) (d : A) → i < length xs
    → fold f (f b (get_or xs i d)) (drop (i + 1) xs) ≡ fold f b (drop i xs)
folded_next f b xs i d lt = sym (at_drop_more (fold f b) xs i d lt)

-- one change more
pub news_more : (held olds : Library) (c : Change) (cs : List Change) → (olds ++ new_rows held (rows_in (c ∷ []))) ++ new_rows held (rows_in cs) ≡ olds ++ new_rows held (rows_in (c ∷ cs))
news_more held olds (id, None) cs = ap (λ (rows : Library). rows ++ new_rows held (rows_in cs)) (append-nil olds)
news_more held olds (id, Some row) cs =
    append_assoc olds (new_rows held ((id, row) ∷ [])) (new_rows held (rows_in cs))
    ∙ ap (λ (more : Library). olds ++ more) (sym (filter-append (λ x. not (has_row held x)) ((id, row) ∷ []) (rows_in cs)))

-- ---- taken back

absent_behind : (b : Bool) (row : Row) (o : Option Row) → cond b (Some row) o ≡ None → o ≡ None
absent_behind true row o h = absurd (cc)
absent_behind false row o h = h

other_id : (b : Bool) (row : Row) (o : Option Row) → cond b (Some row) o ≡ None → b ≡ false
other_id true row o h = absurd (cc)
other_id false row o h = refl

absent_before : (q i : ℕ) (rows : Library) → at q rows ≡ None → at q (take i rows) ≡ None
absent_before q i [] h = ap (at q) (take_nothing i)
  where
    take_nothing : (n : ℕ) → take {A = ℕ × Row} n [] ≡ []
    take_nothing zero = refl
    take_nothing (suc n) = refl
absent_before q zero (e ∷ rows) h = refl
absent_before q (suc i) (e ∷ rows) h =
    ap (λ b. cond b (Some e.1) (at q (take i rows))) (other_id (is_eq (nat_cmp q e.0)) e.1 (at q rows) h)
    ∙ absent_before q i rows (absent_behind (is_eq (nat_cmp q e.0)) e.1 (at q rows) h)

-- rows of other ids leave what is under an id
puts_apart : (q : ℕ) (held rows : Library) → at q rows ≡ None → at q (fold put_in held rows) ≡ at q held
puts_apart q held [] h = refl
puts_apart q held (e ∷ rows) h =
    puts_apart q (put_in held e) rows (absent_behind (is_eq (nat_cmp q e.0)) e.1 (at q rows) h)
    ∙ at-put q e held ∙ ap (λ b. cond b (Some e.1) (at q held)) (other_id (is_eq (nat_cmp q e.0)) e.1 (at q rows) h)

-- some of the fresh rows were put, and the ids of all of them are taken out
pub taken_back : (held rows : Library) (i : ℕ) → AreFresh held rows → fold taken_out (fold put_in held (take i rows)) (keys_of rows) ≡ held
taken_back held rows i fresh =
    let put : Library = fold put_in held (take i rows) in
    let s : IsAscending put = ascending-puts held (take i rows) fresh.held_ascends in
    same_pairs (fold taken_out put (keys_of rows)) held (ascending-outs put (keys_of rows) s) fresh.held_ascends
    (λ q.
    at-outs q put (keys_of rows) s ∙ ap (λ b. cond b None (at q put)) (has-keys_of q rows)
    ∙ elim (at q rows) as (λ o. at q rows ≡ o → cond (is_some o) None (at q put) ≡ at q held) [
      | None ↦ λ none. puts_apart q held (take i rows) (absent_before q i rows none)
      | Some row ↦ λ some. sym (fresh.apart q (ap is_some some))
    ] refl)

-- ---- put over

pub held_more : (held : Library) (e : ℕ × Row) (rows : Library) → AreHeld held rows → AreHeld (put_in held e) rows
held_more held e [] all = tt
held_more held e (x ∷ rows) all =
    (ap is_some (at-put x.0 e held) ∙ still (is_eq (nat_cmp x.0 e.0)) (at x.0 held) all.0, held_more held e rows all.1)
  where
    still : (b : Bool) (o : Option Row) → is_some o ≡ true → is_some (cond b (Some e.1) o) ≡ true
    still true o h = refl
    still false o h = h

at-fresh : (q : ℕ) (held rows : Library) → at q (fresh_rows held rows) ≡ cond (is_none (at q held)) (at q rows) None
at-fresh q held rows = at-filter q (λ id. is_none (at id held)) rows

pub fresh_are_fresh : (held rows : Library) → IsAscending held → IsAscending rows → AreFresh held (fresh_rows held rows)
fresh_are_fresh held rows s t = record {
  held_ascends = s;
  rows_ascend = ascending-filter (λ e. is_none (at e.0 held)) rows t;
  apart = λ q h. none_held (at q held) (at q rows) (sym (ap is_some (at-fresh q held rows)) ∙ h);
}
  where
    none_held : (was found : Option Row) → is_some (cond (is_none was) found None) ≡ true → was ≡ None
    none_held None found h = refl
    none_held (Some old) found h = absurd (cc)

-- once the fresh rows are put, all ids are held
pub all_held : (held rows : Library) → IsAscending held → IsAscending rows → AreHeld (fold put_in held (fresh_rows held rows)) rows
all_held held rows s t =
    let fresh = fresh_are_fresh held rows s t in
    holds_of_all (λ e. is_some (at e.0 (fold put_in held (fresh_rows held rows))) ≡ true) rows t
    (λ q row h.
    ap is_some (at-puts q held (fresh_rows held rows) fresh.rows_ascend ∙ ap (λ o. option_or o (at q held)) (at-fresh q held rows))
    ∙ one_there (at q held) (at q rows) (ap is_some h))
  where
    one_there : (was found : Option Row) → is_some found ≡ true → is_some (option_or (cond (is_none was) found None) was) ≡ true
    one_there None (Some row) h = refl
    one_there None None h = h
    one_there (Some old) found h = refl

-- and putting all of them comes to the same as if the fresh ones had not been put before
pub put_once : (held rows : Library) → IsAscending held → IsAscending rows → fold put_in (fold put_in held (fresh_rows held rows)) rows ≡ fold put_in held rows
put_once held rows s t =
    let fresh = fresh_are_fresh held rows s t in
    let first : Library = fold put_in held (fresh_rows held rows) in
    same_pairs (fold put_in first rows) (fold put_in held rows) (ascending-puts first rows (ascending-puts held (fresh_rows held rows) s)) (ascending-puts held rows s)
    (λ q.
    at-puts q first rows t
    ∙ ap (option_or (at q rows)) (at-puts q held (fresh_rows held rows) fresh.rows_ascend ∙ ap (λ o. option_or o (at q held)) (at-fresh q held rows))
    ∙ either_way (at q held) (at q rows)
    ∙ sym (at-puts q held rows t))
  where
    either_way : (was found : Option Row) → option_or found (option_or (cond (is_none was) found None) was) ≡ option_or found was
    either_way None None = refl
    either_way None (Some row) = refl
    either_way (Some old) None = refl
    either_way (Some old) (Some row) = refl
