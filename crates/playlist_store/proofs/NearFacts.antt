-- The index of members by item, and the keys that batches touch, as a loop finds them one by one.
use Rattle.std.proofs.Common.{◌≡◌, ◌<◌, ◌-◌, ◌+◌, ◌^◌, ◌==◌, ◌&&◌, ◌||◌, not, ℕ, Bool, true, false, cond, List, [], ◌∷◌, length, get_or, drop, flat_map, Some, is_some, refl, sym, ap, ◌∙◌, ⊎_elim, true≢false, arith, eqb-true, eq-eqb, nat_cmp, is_eq, Ordering, Less, Equal, Greater}
use Rattle.std.specs.Prelude.{nat_le, nat_lt}
use Rattle.std.specs.List.{list_any}
use Rattle.std.specs.Ordering.{ordering_then, is_le, is_lt}
use Rattle.std.specs.BTreeMap.{is_at}
use Rattle.std.specs.BTreeMap.Range.{range_contains}
use Rattle.std.specs.BTreeSet.{insert_key}
use Rattle.std.specs.declared.ops.Bound.TheVariants.{Included}
use Rattle.std.specs.Cmp.{nat_cmp_total}
use Rattle.std.proofs.lemmas.Bool.{cases_Bool, and_parts, ltb-true, and_from, or_left, or_right}
use Rattle.std.proofs.lemmas.Cmp.{ranked, tied_itself}
use Rattle.std.proofs.lemmas.List.Folds.{list_any-append}
use Rattle.std.proofs.Math.Bool.{or-false}
use Rattle.item_model.specs.declared.changes.Edit.{Edit}
use Rattle.item_model.specs.Valid.{is_id, AreValid}
use Rattle.share_history.specs.LastSaid.{member_at}
use Rattle.share_history.proofs.KeyedFacts.{same_key, is_eq-cmp, member-insert_key}
use Rattle.share_history.proofs.EditFacts.{member_unnamed, drop_more}
use Rattle.share_history.proofs.ValidFacts.{keys_are_ids}
use Rattle.playlist_store.specs.declared.kept.ListVersion.{ListVersion}
use Rattle.playlist_store.specs.Names.{Names}
use Rattle.playlist_store.specs.Lists.{near_cmp}
use Rattle.playlist_store.specs.Reads.{is_key, is_member, pairs_of, is_near, is_item_of, is_touched_by}

-- ---- the keys of members are numbers of 32 bits

pub small_member : (es : List Edit) (c key item : ℕ) → AreValid es → member_at es c key ≡ Some item → key < 2 ^ 32
small_member es c key item v is =
    ⊎_elim
    (λ good. ltb-true key (2 ^ 32) (and_parts (nat_le 1 key) (nat_lt key (2 ^ 32)) good).1)
    (λ bad. absurd (true≢false (ap is_some (sym is ∙ member_unnamed es c key (keys_are_ids key es v bad)))))
    (cases_Bool (is_id key))

-- ---- pairs of an item and a key

from_zero : (key : ℕ) (r : Ordering) → r ≡ nat_cmp 0 key → is_le r ≡ true
from_zero key Less is = refl
from_zero key Equal is = refl
from_zero key Greater is = absurd (omega (arith, ranked 0 key Greater is))

up_to_most : (key : ℕ) (r : Ordering) → key < 2 ^ 32 → r ≡ nat_cmp (2 ^ 32 - 1) key → not (is_lt r) ≡ true
up_to_most key Less small is = absurd (omega (arith, small, ranked (2 ^ 32 - 1) key Less is))
up_to_most key Equal small is = refl
up_to_most key Greater small is = refl

in_range : (item key : ℕ) → key < 2 ^ 32 → range_contains near_cmp (Included (item, 0)) (Included (item, 2 ^ 32 - 1)) (item, key) ≡ true
in_range item key small =
    and_from (is_le (near_cmp (item, 0) (item, key))) (not (is_lt (near_cmp (item, 2 ^ 32 - 1) (item, key))))
    (ap (λ r. is_le (ordering_then r (nat_cmp 0 key))) (tied_itself nat_cmp_total item) ∙ from_zero key (nat_cmp 0 key) refl)
    (ap (λ r. not (is_lt (ordering_then r (nat_cmp (2 ^ 32 - 1) key)))) (tied_itself nat_cmp_total item) ∙ up_to_most key (nat_cmp (2 ^ 32 - 1) key) small refl)

pub same_pair : (item key : ℕ) (pair : ℕ × ℕ) → is_eq (near_cmp (item, key) pair) ≡ true → (item, key) ≡ pair
same_pair item key pair h = by_first (nat_cmp item pair.0) refl h
  where
    by_first : (r : Ordering) → nat_cmp item pair.0 ≡ r → is_eq (ordering_then r (nat_cmp key pair.1)) ≡ true → (item, key) ≡ pair
    by_first Less is e = absurd (true≢false (sym e))
    by_first Equal is e = λ i. (same_key item pair.0 (ap is_eq is) i, same_key key pair.1 e i)
    by_first Greater is e = absurd (true≢false (sym e))

-- a member in the index under an item is found there
pub near_found : (near : List (ℕ × ℕ)) (item key : ℕ) → key < 2 ^ 32 → list_any (is_at (near_cmp (item, key))) near ≡ true → is_near near item key ≡ true
near_found [] item key small h = h
near_found (pair ∷ near) item key small h = by_head (is_eq (near_cmp (item, key) pair)) refl h (near_found near item key small)
  where
    inside : ℕ × ℕ → Bool
    inside p = range_contains near_cmp (Included (item, 0)) (Included (item, 2 ^ 32 - 1)) p

    by_range : (b : Bool) → is_near near item key ≡ true → list_any (λ p. p.1 == key) (cond b (pair ∷ pairs_of item near) (pairs_of item near)) ≡ true
    by_range true rest = or_right (pair.1 == key) (is_near near item key) rest
    by_range false rest = rest

    by_head : (b : Bool) → is_eq (near_cmp (item, key) pair) ≡ b → (b || list_any (is_at (near_cmp (item, key))) near) ≡ true
        → (list_any (is_at (near_cmp (item, key))) near ≡ true → is_near near item key ≡ true) → is_near (pair ∷ near) item key ≡ true
    by_head true is e rest =
        ap (λ b. list_any (λ p. p.1 == key) (cond b (pair ∷ pairs_of item near) (pairs_of item near)))
        (ap (range_contains near_cmp (Included (item, 0)) (Included (item, 2 ^ 32 - 1))) (sym (same_pair item key pair is)) ∙ in_range item key small)
        ∙ or_left (pair.1 == key) (is_near near item key) (eq-eqb pair.1 key (ap (λ p. p.1) (sym (same_pair item key pair is))))
    by_head false is e rest = by_range (range_contains near_cmp (Included (item, 0)) (Included (item, 2 ^ 32 - 1)) pair) (rest e)

-- ---- keys that a loop puts

pub has_more : (q key : ℕ) (keys keys' : List ℕ) → keys' ≡ insert_key nat_cmp keys key → is_key q keys' ≡ (is_key q keys || (key == q))
has_more q key keys keys' is = ap (is_key q) is ∙ member-insert_key nat_cmp nat_cmp_total q key keys ∙ ap (λ b. b || is_key q keys) (is_eq-cmp q key) ∙ swapped (key == q) (is_key q keys)
  where
    swapped : (a b : Bool) → (a || b) ≡ (b || a)
    swapped true true = refl
    swapped true false = refl
    swapped false true = refl
    swapped false false = refl

or_again : (a b c : Bool) → ((a || b) || c) ≡ (a || (b || c))
or_again true b c = refl
or_again false b c = refl

-- what is found so far and in the rest, after one more step
pub found_left : {A : Type 0} (test : A → Bool) (xs : List A) (i : ℕ) (x : A) (was now : Bool) → i < length xs → x ≡ get_or xs i x → now ≡ (was || test x)
    → (now || list_any test (drop (i + 1) xs)) ≡ (was || list_any test (drop i xs))
found_left test xs i x was now lt at is =
    ap (λ b. b || list_any test (drop (i + 1) xs)) is ∙ or_again was (test x) (list_any test (drop (i + 1) xs)) ∙ ap (λ ys. was || list_any test ys) (sym (drop_more xs i x lt at))

pub found_next : (was one rest now : Bool) → now ≡ (was || one) → (now || rest) ≡ (was || (one || rest))
found_next was one rest now is = ap (λ b. b || rest) is ∙ or_again was one rest

-- a test of only the keys, among pairs
pub near_tested : (test : ℕ → Bool) (q : ℕ) (pairs : List (ℕ × ℕ)) → list_any (λ pair. test pair.1 && (pair.1 == q)) pairs ≡ (list_any (λ pair. pair.1 == q) pairs && test q)
near_tested test q [] = refl
near_tested test q (pair ∷ pairs) = ap (λ b. (test pair.1 && (pair.1 == q)) || b) (near_tested test q pairs) ∙ one (pair.1 == q) refl
  where
    none : (a : Bool) → (a && false) ≡ false
    none true = refl
    none false = refl

    taken : (a b : Bool) → ((a && true) || (b && a)) ≡ a
    taken true b = refl
    taken false true = refl
    taken false false = refl

    one : (b : Bool) → (pair.1 == q) ≡ b → ((test pair.1 && b) || (list_any (λ pair. pair.1 == q) pairs && test q)) ≡ ((b || list_any (λ pair. pair.1 == q) pairs) && test q)
    one true is =
        ap (λ k. (test k && true) || (list_any (λ pair. pair.1 == q) pairs && test q)) (eqb-true pair.1 q is) ∙ taken (test q) (list_any (λ pair. pair.1 == q) pairs)
    one false is = ap (λ b. b || (list_any (λ pair. pair.1 == q) pairs && test q)) (none (test pair.1))

pub near_put : (q : ℕ) (now old : Bool) (test : ℕ → Bool) (left all : List (ℕ × ℕ)) → left ≡ []
    → (now || list_any (λ pair. test pair.1 && (pair.1 == q)) left) ≡ (old || list_any (λ pair. test pair.1 && (pair.1 == q)) all)
    → now ≡ (old || (list_any (λ pair. pair.1 == q) all && test q))
near_put q now old test left all none found =
    sym (ap (λ pairs. now || list_any (λ pair. test pair.1 && (pair.1 == q)) pairs) none ∙ or-false now) ∙ found ∙ ap (λ b. old || b) (near_tested test q all)

-- ---- what batches name together

or_apart : (a b c d : Bool) → ((a || b) || (c || d)) ≡ ((a || c) || (b || d))
or_apart true b c d = refl
or_apart false true true d = refl
or_apart false true false d = refl
or_apart false false c d = refl

pub touched_together : (kept : ListVersion) (c q : ℕ) (named : List Names)
    → list_any (is_touched_by kept c q) named ≡ (list_any (is_member c q) (flat_map (λ n. n.members) named) || list_any (is_item_of kept q) (flat_map (λ n. n.items) named))
touched_together kept c q [] = refl
touched_together kept c q (n ∷ named) =
    ap (λ b. is_touched_by kept c q n || b) (touched_together kept c q named)
    ∙ or_apart (list_any (is_member c q) n.members) (list_any (is_item_of kept q) n.items) (list_any (is_member c q) (flat_map (λ n. n.members) named)) (list_any (is_item_of kept q) (flat_map (λ n. n.items) named))
    ∙ ap (λ b. b || (list_any (is_item_of kept q) n.items || list_any (is_item_of kept q) (flat_map (λ n. n.items) named))) (sym (list_any-append (is_member c q) n.members (flat_map (λ n. n.members) named)))
    ∙ ap (λ b. list_any (is_member c q) (flat_map (λ n. n.members) (n ∷ named)) || b) (sym (list_any-append (is_item_of kept q) n.items (flat_map (λ n. n.items) named)))
