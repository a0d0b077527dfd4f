-- What one edit more makes of the items that edits leave, and of how many they are.
use Rattle.std.proofs.Common.{◌≡◌, ◌≤◌, ◌<◌, ◌+◌, ◌^◌, ℕ, Bool, true, false, cond, ◌&&◌, ◌==◌, List, [], ◌∷◌, ◌++◌, length, Option, None, Some, is_some, unwrap_or, refl, sym, ap, ◌∙◌, arith, Ok, Err, nat_cmp}
use Rattle.std.specs.Prelude.{nat_le, Result, IfOk, OnOk}
use Rattle.std.specs.Option.{option_map, option_and_then}
use Rattle.std.specs.List.{sum_by}
use Rattle.std.specs.Map.{values_of}
use Rattle.std.specs.Cmp.{nat_cmp_total}
use Rattle.std.proofs.lemmas.Bool.{le-leb}
use Rattle.std.proofs.lemmas.List.Sums.{sum_by-cons}
use Rattle.std.proofs.lemmas.List.Elements.{All-push}
use Rattle.std.proofs.lemmas.Map.Entries.{sum_by-insert_entry, sum_by-remove_entry}
use Rattle.std.specs.BTreeMap.{is_at}
use Rattle.item_model.specs.declared.item.Row.{Row}
use Rattle.item_model.specs.declared.changes.Edit.{Edit}
use Rattle.item_model.specs.declared.changes.Edit.TheVariants.{PutItem, DropItem, PutList, PutRule, DropList, PutMember, DropMember}
use Rattle.item_model.specs.Valid.{IsValid, AreValid}
use Rattle.share_history.specs.Keyed.{at, put_in, taken_out, IsAscending}
use Rattle.share_history.specs.LastSaid.{only_if, says_item, item_at}
use Rattle.share_history.specs.Rows.{library}
use Rattle.share_history.proofs.EditFacts.{item_more}
use Rattle.share_history.proofs.RowFacts.{with_edit, library_more, at-library, ascending-library}
use Rattle.share_history.proofs.ValidFacts.{few_items}
use Rattle.key_versions.specs.declared.version.Version.{Version}
use Rattle.key_versions.specs.Found.{value_in, newest_value}
use Rattle.key_versions.specs.Held.{Held, versions_at, value_at}
use Rattle.item_store.specs.Changes.{AreItems}
use Rattle.key_versions.proofs.FoundFacts.{found_first}

-- ---- how many pairs there are after a put or a removal

ones : {A : Type 0} (es : List (ℕ × A)) → sum_by (λ _. 1) (values_of es) ≡ length es
ones [] = refl
ones (e ∷ es) = sum_by-cons (λ _. 1) e.1 (values_of es) ∙ omega (arith, ones es)

one_if : {A : Type 0} (o : Option A) → ◌≡◌ {A = ℕ} (unwrap_or (option_map (λ _. 1) o) 0) (cond (is_some o) 1 0)
one_if None = refl
one_if (Some x) = refl

length-put : {A : Type 0} (k : ℕ) (v : A) (es : List (ℕ × A)) → IsAscending es → length (put_in es (k, v)) + cond (is_some (at k es)) 1 0 ≡ length es + 1
length-put k v es s =
    let e = sum_by-insert_entry (λ _. 1) nat_cmp_total es k v s in
    omega (arith, e, ones (put_in es (k, v)), ones es, one_if (at k es))

length-out : {A : Type 0} (k : ℕ) (es : List (ℕ × A)) → length (taken_out es k) + cond (is_some (at k es)) 1 0 ≡ length es
length-out k es =
    let e = sum_by-remove_entry (λ _. 1) (is_at (nat_cmp k)) es in
    omega (arith, e, ones (taken_out es k), ones es, one_if (at k es))

pub length-put_item : (es : List Edit) (row : Row)
    → length (library (es ++ PutItem row ∷ [])) + cond (is_some (item_at es row.id)) 1 0 ≡ length (library es) + cond (is_some (Some row)) 1 0
length-put_item es row =
    ap (λ rs. length rs + cond (is_some (item_at es row.id)) 1 0) (sym (library_more es (PutItem row)))
    ∙ ap (λ o. length (put_in (library es) (row.id, row)) + cond (is_some o) 1 0) (sym (at-library es row.id))
    ∙ length-put row.id row (library es) (ascending-library es)

pub length-drop_item : (es : List Edit) (id : ℕ)
    → length (library (es ++ DropItem id ∷ [])) + cond (is_some (item_at es id)) 1 0 ≡ length (library es) + cond (is_some {T = Row} None) 1 0
length-drop_item es id =
    ap (λ rs. length rs + cond (is_some (item_at es id)) 1 0) (sym (library_more es (DropItem id)))
    ∙ ap (λ o. length (taken_out (library es) id) + cond (is_some o) 1 0) (sym (at-library es id))
    ∙ length-out id (library es) ∙ (let same : length (library es) ≡ length (library es) + 0 = omega arith in same)

-- ---- one edit more

-- if there is a value for the newest version, there is one at each revision from some on
newest_seen : (vs : List (Version Row)) → (from : ℕ) × ((base : ℕ) → from ≤ base → value_in vs base ≡ newest_value vs)
newest_seen [] = (0, λ base h. refl)
newest_seen (v ∷ vs) = (v.revision, λ base h. ap (option_and_then (λ w. w.value)) (found_first v vs base h))

-- the newest row of an id is its item
pub newest_item : (revision : ℕ) (es : List Edit) (held : Held Row) (count : ℕ) → AreItems revision es held count → (id : ℕ) → newest_value (versions_at id held) ≡ item_at es id
newest_item revision es held count a id =
    let s = newest_seen (versions_at id held) in
    sym (s.1 (s.0 + revision) (omega arith)) ∙ a.rows id (s.0 + revision) (omega arith)

said : (b : Bool) (row old : Option Row) → cond (b && true) row old ≡ unwrap_or (only_if b row) old
said true row old = refl
said false row old = refl

one_more : (e : Edit) (id : ℕ) (row : Option Row) (es : List Edit) (old new : Held Row) (revision count now : ℕ)
    → IsValid e
    → ((q : ℕ) → says_item q e ≡ only_if (id == q) row)
    → length (library (es ++ e ∷ [])) + cond (is_some (item_at es id)) 1 0 ≡ length (library es) + cond (is_some row) 1 0
    → ((q base : ℕ) → value_at new q base ≡ cond ((id == q) && nat_le revision base) row (value_at old q base))
    → ((n : ℕ) → n < 2 ^ 32 → n + cond (is_some (newest_value (versions_at id old))) 1 0 ≡ count + cond (is_some row) 1 0 → now ≡ n)
    → AreItems revision es old count → AreItems revision (es ++ e ∷ []) new now
one_more e id row es old new revision count now v says lengths rows counts a =
    let valid : AreValid (es ++ e ∷ []) = All-push IsValid es e a.valid v in
    record {
      valid = valid;
      rows = λ q base h.
          rows q base
          ∙ ap (λ b. cond ((id == q) && b) row (value_at old q base)) (le-leb revision base h)
          ∙ ap (λ was. cond ((id == q) && true) row was) (a.rows q base h)
          ∙ said (id == q) row (item_at es q)
          ∙ sym (item_more es e q ∙ ap (λ o. unwrap_or o (item_at es q)) (says q));
      counted = counts (length (library (es ++ e ∷ []))) (few_items (es ++ e ∷ []) valid)
          (ap (λ o. length (library (es ++ e ∷ [])) + cond (is_some o) 1 0) (newest_item revision es old count a id) ∙ lengths
          ∙ ap (λ n. n + cond (is_some row) 1 0) (sym a.counted));
    }

-- an edit that leaves the items
none_more : (e : Edit) (es : List Edit) (held : Held Row) (revision count : ℕ) → IsValid e
    → ((q : ℕ) → says_item q e ≡ None) → with_edit (library es) e ≡ library es
    → AreItems revision es held count → AreItems revision (es ++ e ∷ []) held count
none_more e es held revision count v says left a = record {
  valid = All-push IsValid es e a.valid v;
  rows = λ q base h. a.rows q base h ∙ sym (item_more es e q ∙ ap (λ o. unwrap_or o (item_at es q)) (says q));
  counted = a.counted ∙ ap length (sym left ∙ library_more es e);
}

-- the same for a call that may fail
pub one_set : {E : Type 0} (r : Result ℕ E) (e : Edit) (id : ℕ) (row : Option Row) (old new : Held Row) (revision count : ℕ)
    → IsValid e
    → ((q : ℕ) → says_item q e ≡ only_if (id == q) row)
    → ((es : List Edit) → length (library (es ++ e ∷ [])) + cond (is_some (item_at es id)) 1 0 ≡ length (library es) + cond (is_some row) 1 0)
    → OnOk r ((q base : ℕ) → value_at new q base ≡ cond ((id == q) && nat_le revision base) row (value_at old q base))
    → IfOk r (λ now. (n : ℕ) → n < 2 ^ 32 → n + cond (is_some (newest_value (versions_at id old))) 1 0 ≡ count + cond (is_some row) 1 0 → now ≡ n)
    → IfOk r (λ now. (es : List Edit) → AreItems revision es old count → AreItems revision (es ++ e ∷ []) new now)
one_set (Ok now) e id row old new revision count v says lengths rows counts = λ es a. one_more e id row es old new revision count now v says (lengths es) rows counts a
one_set (Err x) e id row old new revision count v says lengths rows counts = tt

pub one_left : (e : Edit) (held : Held Row) (revision count : ℕ) → IsValid e → ((row : Row) → e ≡ PutItem row → ⊥) → ((id : ℕ) → e ≡ DropItem id → ⊥)
    → (es : List Edit) → AreItems revision es held count → AreItems revision (es ++ e ∷ []) held count
one_left (PutItem row) held revision count v put drop es a = absurd (put row refl)
one_left (DropItem id) held revision count v put drop es a = absurd (drop id refl)
one_left (PutList list name) held revision count v put drop es a = none_more (PutList list name) es held revision count v (λ q. refl) refl a
one_left (PutRule list name rule) held revision count v put drop es a = none_more (PutRule list name rule) es held revision count v (λ q. refl) refl a
one_left (DropList list) held revision count v put drop es a = none_more (DropList list) es held revision count v (λ q. refl) refl a
one_left (PutMember list member item) held revision count v put drop es a = none_more (PutMember list member item) es held revision count v (λ q. refl) refl a
one_left (DropMember list member) held revision count v put drop es a = none_more (DropMember list member) es held revision count v (λ q. refl) refl a
