-- The rows of a listing are the one ascending list that is right at each key.
use Rattle.std.proofs.Common.{◌≡◌, ℕ, ◌+◌, ◌≤◌, length, length-append, fold, nat_cmp, Ordering, Less, Equal, Greater, arith, Bool, true, false, cond, ◌==◌, List, [], ◌∷◌, ◌++◌, unwrap_or, refl, sym, ap, ◌∙◌, Option, Some, None, is_some, filter}
use Rattle.std.specs.Option.{option_and_then, option_map}
use Rattle.std.specs.List.{cons_option}
use Rattle.std.specs.Ordering.{match_ordering}
use Rattle.std.specs.BTreeSet.{insert_key}
use Rattle.std.specs.Map.{keys_of}
use Rattle.std.proofs.lemmas.Bool.{cond_both}
use Rattle.item_model.specs.declared.item.Row.{Row}
use Rattle.item_model.specs.declared.query.Query.{Query}
use Rattle.item_model.specs.declared.changes.Edit.{Edit}
use Rattle.item_model.specs.declared.changes.Edit.TheVariants.{PutItem, DropItem, PutList, PutRule, DropList, PutMember, DropMember}
use Rattle.item_model.specs.declared.request.Target.{Target}
use Rattle.item_model.specs.declared.request.Target.TheVariants.{Items, Container}
use Rattle.share_history.specs.Numbers.{base_list}
use Rattle.share_history.specs.Keyed.{at, put_in, taken_out, IsAscending, AreAscending, ascending, pairs_at}
use Rattle.share_history.specs.LastSaid.{Playlist, Plain, Ruled, only_if, says_item, item_at, list_at}
use Rattle.share_history.specs.Named.{keys_in, named_keys, lists_in, named_lists}
use Rattle.share_history.specs.Rows.{is_selected, if_selected, in_list, in_target, row_at, rows, library, lists}
use Rattle.share_history.proofs.KeyedFacts.{has, is_eq-cmp, at-put, ascending-put, at-out, ascending-out, same_pairs, same_keys_same, sorted-ascending, has-ascending, ascending-pairs_at, at-pairs_at, has-keys_of, few_pairs}
use Rattle.share_history.proofs.EditFacts.{item_more, item_unnamed, member_unnamed, list_unnamed}

-- if values exist only under the keys of a list, then the pairs at these keys have under each key its value
at_all : {A : Type 0} (k : ℕ) (value : ℕ → Option A) (keys : List ℕ) → (has k keys ≡ false → value k ≡ None) → at k (pairs_at value (ascending keys)) ≡ value k
at_all k value keys h =
    at-pairs_at k value (ascending keys) ∙ ap (λ b. cond b (value k) None) (has-ascending k keys)
    ∙ cond_both (has k keys) (value k) None (λ w. w ≡ value k) (λ _. refl) (λ b. sym (h b))

list_row_unnamed : (list : Option Playlist) (es : List Edit) (c k : ℕ) → has k (named_keys es) ≡ false → in_list list es c k ≡ None
list_row_unnamed None es c k h = refl
list_row_unnamed (Some (Plain name)) es c k h = ap (option_and_then (item_at es)) (member_unnamed es c k h)
list_row_unnamed (Some (Ruled name rule)) es c k h = ap (option_and_then (if_selected (Some rule))) (item_unnamed es k h)

target_unnamed : (es : List Edit) (t : Target) (k : ℕ) → has k (named_keys es) ≡ false → in_target es t k ≡ None
target_unnamed es Items k h = item_unnamed es k h
target_unnamed es (Container c) k h =
    cond_both (c == base_list) (item_at es k) (in_list (list_at es c) es c k) (λ w. w ≡ None) (λ _. item_unnamed es k h) (λ _. list_row_unnamed (list_at es c) es c k h)

-- a key that no edit names has no row
pub row_unnamed : (es : List Edit) (t : Target) (q : Option Query) (k : ℕ) → has k (named_keys es) ≡ false → row_at es t q k ≡ None
row_unnamed es t q k h = ap (option_and_then (if_selected q)) (target_unnamed es t k h)

pub at-rows : (es : List Edit) (t : Target) (q : Option Query) (k : ℕ) → at k (rows es t q) ≡ row_at es t q k
at-rows es t q k = at_all k (row_at es t q) (named_keys es) (row_unnamed es t q k)

pub ascending-rows : (es : List Edit) (t : Target) (q : Option Query) → IsAscending (rows es t q)
ascending-rows es t q = ascending-pairs_at (row_at es t q) (ascending (named_keys es)) (sorted-ascending (named_keys es))

-- ascending rows that are right under each key are the rows
pub rows_are : (es : List Edit) (t : Target) (q : Option Query) (rs : List (ℕ × Row)) → IsAscending rs → ((k : ℕ) → at k rs ≡ row_at es t q k) → rs ≡ rows es t q
rows_are es t q rs s h = same_pairs rs (rows es t q) s (ascending-rows es t q) (λ k. h k ∙ sym (at-rows es t q k))

pub found_itself : {A : Type 0} (o : Option A) → option_and_then (λ (x : A). Some x) o ≡ o
found_itself None = refl
found_itself (Some x) = refl

-- the row of an item without a query is the item
pub row_at-item : (es : List Edit) (k : ℕ) → row_at es Items None k ≡ item_at es k
row_at-item es k = found_itself (item_at es k)

-- ascending items that are right under each id are the library
pub library_is : (es : List Edit) (rs : List (ℕ × Row)) → IsAscending rs → ((id : ℕ) → at id rs ≡ item_at es id) → rs ≡ library es
library_is es rs s h = rows_are es Items None rs s (λ k. h k ∙ sym (row_at-item es k))

pub at-library : (es : List Edit) (id : ℕ) → at id (library es) ≡ item_at es id
at-library es id = at-rows es Items None id ∙ row_at-item es id

pub ascending-library : (es : List Edit) → IsAscending (library es)
ascending-library es = ascending-rows es Items None

-- one more key of a listing with a query
selected_next : (q : Option Query) (k : ℕ) (o : Option Row) (found all : List (ℕ × Row)) → found ≡ filter (λ row. is_selected q row.1) all
    → cons_option (option_map (λ row. (k, row)) (option_and_then (if_selected q) o)) found
    ≡ filter (λ row. is_selected q row.1) (cons_option (option_map (λ row. (k, row)) (option_and_then (if_selected None) o)) all)
selected_next q k None found all h = h
selected_next q k (Some row) found all h = kept (is_selected q row)
  where
    kept : (b : Bool) → cons_option (option_map (λ row. (k, row)) (only_if b row)) found
        ≡ cond b ((k, row) ∷ filter (λ row. is_selected q row.1) all) (filter (λ row. is_selected q row.1) all)
    kept true = ap (λ rs. (k, row) ∷ rs) h
    kept false = h

selected_among : (es : List Edit) (q : Option Query) (ks : List ℕ)
    → pairs_at (row_at es Items q) ks ≡ filter (λ row. is_selected q row.1) (pairs_at (row_at es Items None) ks)
selected_among es q [] = refl
selected_among es q (k ∷ ks) =
    selected_next q k (item_at es k) (pairs_at (row_at es Items q) ks) (pairs_at (row_at es Items None) ks) (selected_among es q ks)

-- the items of which a query holds are a filter of the library
pub rows_selected : (es : List Edit) (q : Option Query) → rows es Items q ≡ filter (λ row. is_selected q row.1) (library es)
rows_selected es q = selected_among es q (ascending (named_keys es))

-- the library after one edit more: a put replaces the item's row, a drop removes it
abbrev pub with_edit : List (ℕ × Row) → Edit → List (ℕ × Row)
with_edit rs (PutItem row) = put_in rs (row.id, row)
with_edit rs (DropItem id) = taken_out rs id
with_edit rs (PutList list name) = rs
with_edit rs (PutRule list name rule) = rs
with_edit rs (DropList list) = rs
with_edit rs (PutMember list member item) = rs
with_edit rs (DropMember list member) = rs

ascending-with_edit : (rs : List (ℕ × Row)) (e : Edit) → IsAscending rs → IsAscending (with_edit rs e)
ascending-with_edit rs (PutItem row) s = ascending-put (row.id, row) rs s
ascending-with_edit rs (DropItem id) s = ascending-out id rs s
ascending-with_edit rs (PutList list name) s = s
ascending-with_edit rs (PutRule list name rule) s = s
ascending-with_edit rs (DropList list) s = s
ascending-with_edit rs (PutMember list member item) s = s
ascending-with_edit rs (DropMember list member) s = s

put_or_old : (b : Bool) (row : Row) (old : Option Row) → cond b (Some row) old ≡ unwrap_or (only_if b (Some row)) old
put_or_old true row old = refl
put_or_old false row old = refl

out_or_old : (b : Bool) (old : Option Row) → cond b None old ≡ unwrap_or (only_if b None) old
out_or_old true old = refl
out_or_old false old = refl

at-with_edit : (id : ℕ) (rs : List (ℕ × Row)) (e : Edit) → IsAscending rs → at id (with_edit rs e) ≡ unwrap_or (says_item id e) (at id rs)
at-with_edit id rs (PutItem row) s = at-put id (row.id, row) rs ∙ ap (λ b. cond b (Some row) (at id rs)) (is_eq-cmp id row.id) ∙ put_or_old (row.id == id) row (at id rs)
at-with_edit id rs (DropItem gone) s = at-out id gone rs s ∙ ap (λ b. cond b None (at id rs)) (is_eq-cmp id gone) ∙ out_or_old (gone == id) (at id rs)
at-with_edit id rs (PutList list name) s = refl
at-with_edit id rs (PutRule list name rule) s = refl
at-with_edit id rs (DropList list) s = refl
at-with_edit id rs (PutMember list member item) s = refl
at-with_edit id rs (DropMember list member) s = refl

pub library_more : (es : List Edit) (e : Edit) → with_edit (library es) e ≡ library (es ++ e ∷ [])
library_more es e =
    library_is (es ++ e ∷ []) (with_edit (library es) e) (ascending-with_edit (library es) e (ascending-library es))
    (λ id. at-with_edit id (library es) e (ascending-library es) ∙ ap (unwrap_or (says_item id e)) (at-library es id) ∙ sym (item_more es e id))

-- ascending keys that are those of rows are the keys of the rows
pub row_keys_are : (es : List Edit) (t : Target) (q : Option Query) (ks : List ℕ) → AreAscending ks → ((k : ℕ) → has k ks ≡ is_some (row_at es t q k)) → ks ≡ keys_of (rows es t q)
row_keys_are es t q ks s h =
    same_keys_same ks (keys_of (rows es t q)) s (ascending-rows es t q) (λ k. h k ∙ sym (has-keys_of k (rows es t q) ∙ ap is_some (at-rows es t q k)))

pub ids_are : (es : List Edit) (ks : List ℕ) → AreAscending ks → ((id : ℕ) → has id ks ≡ is_some (item_at es id)) → ks ≡ keys_of (library es)
ids_are es ks s h = row_keys_are es Items None ks s (λ k. h k ∙ ap is_some (sym (row_at-item es k)))

-- the same for the lists that are there
pub at-lists : (es : List Edit) (c : ℕ) → at c (lists es) ≡ list_at es c
at-lists es c = at_all c (list_at es) (named_lists es) (list_unnamed es c)

pub ascending-lists : (es : List Edit) → IsAscending (lists es)
ascending-lists es = ascending-pairs_at (list_at es) (ascending (named_lists es)) (sorted-ascending (named_lists es))

pub lists_are : (es : List Edit) (ls : List (ℕ × Playlist)) → IsAscending ls → ((c : ℕ) → at c ls ≡ list_at es c) → ls ≡ lists es
lists_are es ls s h = same_pairs ls (lists es) s (ascending-lists es) (λ c. h c ∙ sym (at-lists es c))

-- ---- how many rows there are

insert_key-longer : {K : Type 0} (R : K → K → Ordering) (ks : List K) (k : K) → length (insert_key R ks k) ≤ length ks + 1
insert_key-longer R [] k = omega arith
insert_key-longer R (x ∷ xs) k = elim (R k x) as (λ r. length (match_ordering r (k ∷ x ∷ xs) (x ∷ xs) (x ∷ insert_key R xs k)) ≤ length (x ∷ xs) + 1) [
  | Less ↦ omega arith
  | Equal ↦ omega arith
  | Greater ↦ omega (arith, insert_key-longer R xs k)
]

pub folded-longer : {K : Type 0} (R : K → K → Ordering) (acc ks : List K) → length (fold (insert_key R) acc ks) ≤ length acc + length ks
folded-longer R acc [] = omega arith
folded-longer R acc (k ∷ ks) = omega (arith, folded-longer R (insert_key R acc k) ks, insert_key-longer R acc k)

one_key : (e : Edit) → length (keys_in e) ≤ 1
one_key (PutItem row) = omega arith
one_key (DropItem id) = omega arith
one_key (PutList list name) = omega arith
one_key (PutRule list name rule) = omega arith
one_key (DropList list) = omega arith
one_key (PutMember list member item) = omega arith
one_key (DropMember list member) = omega arith

-- no more keys than edits
pub few_keys : (es : List Edit) → length (named_keys es) ≤ length es
few_keys [] = omega arith
few_keys (e ∷ es) = omega (arith, length-append (keys_in e) (named_keys es), one_key e, few_keys es)

-- no more rows than edits
pub length-rows : (es : List Edit) (t : Target) (q : Option Query) → length (rows es t q) ≤ length es
length-rows es t q = omega (arith, few_pairs (row_at es t q) (ascending (named_keys es)), folded-longer nat_cmp [] (named_keys es), few_keys es)

-- no more lists than edits
one_list : (e : Edit) → length (lists_in e) ≤ 1
one_list (PutItem row) = omega arith
one_list (DropItem id) = omega arith
one_list (PutList list name) = omega arith
one_list (PutRule list name rule) = omega arith
one_list (DropList list) = omega arith
one_list (PutMember list member item) = omega arith
one_list (DropMember list member) = omega arith

few_lists_named : (es : List Edit) → length (named_lists es) ≤ length es
few_lists_named [] = omega arith
few_lists_named (e ∷ es) = omega (arith, length-append (lists_in e) (named_lists es), one_list e, few_lists_named es)

pub length-lists : (es : List Edit) → length (lists es) ≤ length es
length-lists es = omega (arith, few_pairs (list_at es) (ascending (named_lists es)), folded-longer nat_cmp [] (named_lists es), few_lists_named es)
