-- What valid edits name: ids of items and of lists, so that there are fewer than 2 ^ 32 of either.
use Rattle.std.proofs.Common.{◌≡◌, ◌≤◌, ◌<◌, ◌^◌, ◌&&◌, ◌++◌, ◌∷◌, [], ℕ, suc, Bool, true, false, List, Option, is_some, None, length, flat_map, refl, sym, ap, subst, ◌∙◌, ⊎_elim, true≢false, arith, nat_cmp, is_eq}
use Rattle.std.specs.Prelude.{nat_le, nat_lt}
use Rattle.std.proofs.lemmas.Bool.{and_parts, cases_Bool, leb-true, ltb-true}
use Rattle.std.proofs.lemmas.List.Elements.{All-take}
use Rattle.std.proofs.Math.Bool.{or-false}
use Rattle.std.proofs.Math.Seq.{take-append_seam}
use Rattle.item_model.specs.declared.changes.Edit.{Edit}
use Rattle.item_model.specs.declared.changes.Edit.TheVariants.{PutItem, DropItem, PutList, PutRule, DropList, PutMember, DropMember}
use Rattle.item_model.specs.Proper.{is_proper}
use Rattle.item_model.specs.QuerySeen.{tree_of}
use Rattle.item_model.specs.Valid.{is_id, is_list_id, is_list_name, IsValid, AreValid}
use Rattle.share_history.specs.LastSaid.{item_at, list_at}
use Rattle.share_history.specs.Named.{keys_in, named_keys, lists_in}
use Rattle.share_history.specs.Rows.{library, lists}
use Rattle.share_history.proofs.KeyedFacts.{has, same_key, few_between}
use Rattle.share_history.proofs.EditFacts.{both_false, has-append, item_unnamed, list_unnamed}
use Rattle.share_history.proofs.RowFacts.{at-library, ascending-library, at-lists, ascending-lists}

-- edits before valid ones are valid
pub valid_front : (es ds : List Edit) → AreValid (es ++ ds) → AreValid es
valid_front es ds v = subst AreValid (take-append_seam es ds) (All-take IsValid (length es) (es ++ ds) v)

-- ---- keys that pass a test

-- a number that fails the test is not among keys that pass
module _ (p : ℕ → Bool) where
  other : (q k : ℕ) → p k ≡ true → p q ≡ false → has q (k ∷ []) ≡ false
  other q k good bad =
      or-false (is_eq (nat_cmp q k))
      ∙ ⊎_elim (λ b. absurd (true≢false (sym good ∙ ap p (sym (same_key q k b)) ∙ bad))) (λ b. b) (cases_Bool (is_eq (nat_cmp q k)))

  -- so no edit names it, if each edit's keys pass
  unnamed : (keys : Edit → List ℕ) → ((q : ℕ) (e : Edit) → IsValid e → p q ≡ false → has q (keys e) ≡ false)
      → (q : ℕ) (es : List Edit) → AreValid es → p q ≡ false → has q (flat_map keys es) ≡ false
  unnamed keys each q [] v bad = refl
  unnamed keys each q (e ∷ es) v bad =
      has-append q (keys e) (flat_map keys es)
      ∙ both_false (has q (keys e)) (has q (flat_map keys es)) (each q e (v 0 e (omega arith)) bad)
      (unnamed keys each q es (λ k d lt. v (suc k) d (omega (arith, lt))) bad)

  -- a value that exists only for named keys has a key that passes
  passes : {A : Type 0} (found : Option A) (q : ℕ) → (p q ≡ false → found ≡ None) → is_some found ≡ true → p q ≡ true
  passes found q none there = ⊎_elim (λ b. b) (λ b. absurd (true≢false (sym there ∙ ap is_some (none b)))) (cases_Bool (p q))

-- ---- items

middle : (a b c : Bool) → (a && (b && c)) ≡ true → b ≡ true
middle a b c h = (and_parts b c (and_parts a (b && c) h).1).0

no_key_in : (q : ℕ) (e : Edit) → IsValid e → is_id q ≡ false → has q (keys_in e) ≡ false
no_key_in q (PutItem row) v bad = other is_id q row.id v bad
no_key_in q (DropItem id) v bad = other is_id q id v bad
no_key_in q (PutList list name) v bad = refl
no_key_in q (PutRule list name rule) v bad = refl
no_key_in q (DropList list) v bad = refl
no_key_in q (PutMember list member item) v bad = other is_id q member (middle (is_list_id list) (is_id member) (is_id item) v) bad
no_key_in q (DropMember list member) v bad = other is_id q member (and_parts (is_list_id list) (is_id member) v).1 bad

-- a number that is not an id is not a key of an item or a member
pub keys_are_ids : (q : ℕ) (es : List Edit) → AreValid es → is_id q ≡ false → has q (named_keys es) ≡ false
keys_are_ids q es v bad = unnamed is_id keys_in no_key_in q es v bad

id_bounds : (q : ℕ) → is_id q ≡ true → (1 ≤ q) × (q < 2 ^ 32)
id_bounds q h = let ends = and_parts (nat_le 1 q) (nat_lt q (2 ^ 32)) h in (leb-true 1 q ends.0, ltb-true q (2 ^ 32) ends.1)

pub few_items : (es : List Edit) → AreValid es → length (library es) < 2 ^ 32
few_items es v =
    let few = few_between 1 (2 ^ 32) (library es) (omega arith) (ascending-library es)
    (λ q h. id_bounds q (passes is_id (item_at es q) q (λ bad. item_unnamed es q (keys_are_ids q es v bad)) (ap is_some (sym (at-library es q)) ∙ h))) in
    omega (arith, few)

-- ---- lists

no_list_in : (q : ℕ) (e : Edit) → IsValid e → is_list_id q ≡ false → has q (lists_in e) ≡ false
no_list_in q (PutItem row) v bad = refl
no_list_in q (DropItem id) v bad = refl
no_list_in q (PutList list name) v bad = other is_list_id q list (and_parts (is_list_id list) (is_list_name name) v).0 bad
no_list_in q (PutRule list name rule) v bad = other is_list_id q list (and_parts (is_list_id list) (is_list_name name && is_proper (tree_of rule)) v).0 bad
no_list_in q (DropList list) v bad = other is_list_id q list v bad
no_list_in q (PutMember list member item) v bad = refl
no_list_in q (DropMember list member) v bad = refl

list_bounds : (q : ℕ) → is_list_id q ≡ true → (2 ≤ q) × (q < 2 ^ 32)
list_bounds q h = let ends = and_parts (nat_le 2 q) (nat_lt q (2 ^ 32)) h in (leb-true 2 q ends.0, ltb-true q (2 ^ 32) ends.1)

pub few_lists : (es : List Edit) → AreValid es → length (lists es) < 2 ^ 32
few_lists es v =
    let few = few_between 2 (2 ^ 32) (lists es) (omega arith) (ascending-lists es)
    (λ q h. list_bounds q (passes is_list_id (list_at es q) q (λ bad. list_unnamed es q (unnamed is_list_id lists_in no_list_in q es v bad)) (ap is_some (sym (at-lists es q)) ∙ h))) in
    omega (arith, few)
