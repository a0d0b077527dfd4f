-- Pairs in ascending order of the key: what is under a key after a put or a removal, and that two ascending lists with the
-- same under each key are one.
use Rattle.std.proofs.Common.{◌≡◌, ◌≤◌, ◌<◌, ◌+◌, ℕ, arith, length, Bool, true, false, cond, ◌||◌, ◌&&◌, ◌==◌, filter, eq-eqb, eqb-true, List, [], ◌∷◌, map, refl, sym, ap, ◌∙◌, true≢false, ⊎_elim, Option, Some, None, unwrap_or, Ordering, Less, Equal, Greater, nat_cmp, is_eq, fold, ◌≢◌, is_some, subst}
use Rattle.std.specs.Option.{option_or, option_map}
use Rattle.std.specs.List.{list_any, AllByRecursion, cons_option}
use Rattle.std.specs.List.Sorted.{IsStrictlySortedBy}
use Rattle.std.specs.Ordering.{match_ordering, ordering_reverse}
use Rattle.std.specs.Cmp.{IsTotalOrder, nat_cmp_total}
use Rattle.std.specs.Map.{keys_of, lookup}
use Rattle.std.specs.BTreeMap.{is_at, insert_entry}
use Rattle.std.specs.BTreeSet.{insert_key}
use Rattle.std.proofs.lemmas.Bool.{cases_Bool, false_from_ne_true, or_left, or_right}
use Rattle.std.proofs.lemmas.Map.Views.{any-filter_same}
use Rattle.std.proofs.lemmas.Cmp.{tied_itself, ranked, alike_right, eq_by_cmp_equiv}
use Rattle.std.proofs.lemmas.Map.{lookup-none, lookup-remove_entry}
use Rattle.std.proofs.lemmas.Map.Keys.{sorted_tail, IsDistinct-from_sorted}
use Rattle.std.proofs.lemmas.Map.Entries.{length-keys_of, lookup-filter-keys, lookup_head, lookup_tail, none_past_head, none_below_head}
use Rattle.std.proofs.lemmas.Map.Lookups.{exact_unsigned}
use Rattle.share_history.specs.Keyed.{at, put_in, taken_out, IsAscending, AreAscending, ascending, pairs_at}

not_None : {X : Type 0} (v : X) → Some v ≢ None
not_None v e = true≢false (ap is_some e)

-- ---- any order of the keys

-- two tests of which one excludes the other may be swapped
tests_swapped : {X : Type 0} (a b : Bool) (x y z : X) → (b ≡ true → a ≡ false) → cond a x (cond b y z) ≡ cond b y (cond a x z)
tests_swapped true true x y z h = absurd (true≢false (h refl))
tests_swapped true false x y z h = refl
tests_swapped false b x y z h = refl

test_again : {X : Type 0} (b : Bool) (x y z : X) → cond b x z ≡ cond b x (cond b y z)
test_again true x y z = refl
test_again false x y z = refl

or_again : (b c : Bool) → (b || c) ≡ (b || (b || c))
or_again true c = refl
or_again false c = refl

or_swapped : (a b c : Bool) → (a || (b || c)) ≡ (b || (a || c))
or_swapped true true c = refl
or_swapped true false c = refl
or_swapped false b c = refl

all_weaker : {K : Type 0} (P Q : K → Type 0) → ((k : K) → P k → Q k) → (ks : List K) → AllByRecursion P ks → AllByRecursion Q ks
all_weaker P Q h [] all = tt
all_weaker P Q h (k ∷ ks) all = (h k all.0, all_weaker P Q h ks all.1)

module _ {K : Type 0} (R : K → K → Ordering) (o : IsTotalOrder R) where
  -- which keys a set has after an insertion
  pub member-insert_key : (q k : K) (ks : List K) → list_any (is_at (R q)) (insert_key R ks k) ≡ (is_eq (R q k) || list_any (is_at (R q)) ks)
  member-insert_key q k [] = refl
  member-insert_key q k (x ∷ xs) =
      elim (R k x) as (λ r. R k x ≡ r → list_any (is_at (R q)) (match_ordering r (k ∷ x ∷ xs) (x ∷ xs) (x ∷ insert_key R xs k)) ≡ (is_eq (R q k) || (is_eq (R q x) || list_any (is_at (R q)) xs))) [
        | Less ↦ λ p. refl
        | Equal ↦ λ p. or_again (is_eq (R q x)) _ ∙ ap (λ r. is_eq r || (is_eq (R q x) || list_any (is_at (R q)) xs)) (sym (alike_right o k x q p))
        | Greater ↦ λ p. ap (λ b. is_eq (R q x) || b) (member-insert_key q k xs) ∙ or_swapped (is_eq (R q x)) (is_eq (R q k)) _
      ] refl

  all-insert_key : (P : K → Type 0) (k : K) (ks : List K) → P k → AllByRecursion P ks → AllByRecursion P (insert_key R ks k)
  all-insert_key P k [] h all = (h, tt)
  all-insert_key P k (x ∷ xs) h all =
      elim (R k x) as (λ r. AllByRecursion P (match_ordering r (k ∷ x ∷ xs) (x ∷ xs) (x ∷ insert_key R xs k))) [
        | Less ↦ (h, all)
        | Equal ↦ all
        | Greater ↦ (all.0, all-insert_key P k xs h all.1)
      ]

  pub sorted-insert_key : (k : K) (ks : List K) → IsStrictlySortedBy R ks → IsStrictlySortedBy R (insert_key R ks k)
  unfolding IsStrictlySortedBy
  sorted-insert_key k [] s = (tt, tt)
  sorted-insert_key k (x ∷ xs) s =
      elim (R k x) as (λ r. R k x ≡ r → IsStrictlySortedBy R (match_ordering r (k ∷ x ∷ xs) (x ∷ xs) (x ∷ insert_key R xs k))) [
        | Less ↦ λ p. ((p, all_weaker (λ y. R x y ≡ Less) (λ y. R k y ≡ Less) (λ y h. o.trans k x y p h) xs s.0), s)
        | Equal ↦ λ p. s
        | Greater ↦ λ p. (all-insert_key (λ y. R x y ≡ Less) k xs (o.antisymm x k ∙ ap ordering_reverse p) s.0, sorted-insert_key k xs s.1)
      ] refl

  pub keys-insert_entry : {X : Type 0} (k : K) (v : X) (es : List (K × X)) → keys_of (insert_entry R es k v) ≡ insert_key R (keys_of es) k
  keys-insert_entry k v [] = refl
  keys-insert_entry k v (e ∷ es) =
      elim (R k e.0) as (λ r. keys_of (match_ordering r ((k, v) ∷ e ∷ es) ((e.0, v) ∷ es) (e ∷ insert_entry R es k v))
      ≡ match_ordering r (k ∷ e.0 ∷ keys_of es) (e.0 ∷ keys_of es) (e.0 ∷ insert_key R (keys_of es) k)) [
        | Less ↦ refl
        | Equal ↦ refl
        | Greater ↦ ap (λ ks. e.0 ∷ ks) (keys-insert_entry k v es)
      ]

  pub lookup-insert_entry : {X : Type 0} (q k : K) (v : X) (es : List (K × X)) → lookup (is_at (R q)) (insert_entry R es k v) ≡ cond (is_eq (R q k)) (Some v) (lookup (is_at (R q)) es)
  lookup-insert_entry q k v [] = refl
  lookup-insert_entry q k v (e ∷ es) =
      elim (R k e.0) as (λ r. R k e.0 ≡ r → lookup (is_at (R q)) (match_ordering r ((k, v) ∷ e ∷ es) ((e.0, v) ∷ es) (e ∷ insert_entry R es k v))
      ≡ cond (is_eq (R q k)) (Some v) (cond (is_eq (R q e.0)) (Some e.1) (lookup (is_at (R q)) es))) [
        | Less ↦ λ p. refl
        | Equal ↦ λ p. test_again (is_eq (R q e.0)) (Some v) (Some e.1) _ ∙ ap (λ r. cond (is_eq r) (Some v) (cond (is_eq (R q e.0)) (Some e.1) (lookup (is_at (R q)) es))) (sym (alike_right o k e.0 q p))
        | Greater ↦ λ p. ap (λ w. cond (is_eq (R q e.0)) (Some e.1) w) (lookup-insert_entry q k v es)
            ∙ tests_swapped (is_eq (R q e.0)) (is_eq (R q k)) (Some e.1) (Some v) _ (λ b. ap is_eq (eq_apart q k e.0 b p))
      ] refl
    where
      eq_apart : (q k x : K) → is_eq (R q k) ≡ true → R k x ≡ Greater → R q x ≡ Greater
      eq_apart q k x b p = elim (R q k) as (λ r. R q k ≡ r → is_eq r ≡ true → R q x ≡ Greater) [
        | Less ↦ λ e h. absurd (true≢false (sym h))
        | Equal ↦ λ e h. o.congr q k x e ∙ p
        | Greater ↦ λ e h. absurd (true≢false (sym h))
      ] refl b

-- ---- equal look-ups give equal lists

module _ {X : Type 0} where
  at_head : (x : ℕ × X) (xs : List (ℕ × X)) → at x.0 (x ∷ xs) ≡ Some x.1
  at_head x xs = lookup_head (is_at (nat_cmp x.0)) x xs (ap is_eq (tied_itself nat_cmp_total x.0))

  pub past_head : (q : ℕ) (x : ℕ × X) (xs : List (ℕ × X)) → IsAscending (x ∷ xs) → is_eq (nat_cmp q x.0) ≡ true → at q xs ≡ None
  past_head q x xs s t = lookup-none (is_at (nat_cmp q)) xs (none_past_head (eq_by_cmp_equiv nat_cmp_total) q x xs (IsDistinct-from_sorted nat_cmp _ s) t)

  module _ (x y : ℕ × X) (xs ys : List (ℕ × X)) (s : IsAscending (x ∷ xs)) (t : IsAscending (y ∷ ys)) (h : (q : ℕ) → at q (x ∷ xs) ≡ at q (y ∷ ys)) where
    by_heads : (r : Ordering) → nat_cmp x.0 y.0 ≡ r → nat_cmp x.0 y.0 ≡ Equal
    by_heads Less p = absurd (not_None x.1 (sym (at_head x xs) ∙ h x.0 ∙ lookup-none _ (y ∷ ys) (none_below_head nat_cmp_total x.0 y ys t p)))
    by_heads Equal p = p
    by_heads Greater p = absurd (not_None y.1 (sym (at_head y ys) ∙ sym (h y.0) ∙ lookup-none _ (x ∷ xs) (none_below_head nat_cmp_total y.0 x xs s (nat_cmp_total.antisymm y.0 x.0 ∙ ap ordering_reverse p))))

    same_heads : nat_cmp x.0 y.0 ≡ Equal
    same_heads = by_heads (nat_cmp x.0 y.0) refl

    same_keys : x.0 ≡ y.0
    same_keys = exact_unsigned x.0 y.0 same_heads

    same_values : x.1 ≡ y.1
    same_values = ap (λ u. unwrap_or u x.1) (sym (at_head x xs) ∙ h x.0 ∙ lookup_head (is_at (nat_cmp x.0)) y ys (ap is_eq same_heads))

    same_tails : (q : ℕ) → at q xs ≡ at q ys
    same_tails q =
        let e : is_eq (nat_cmp q y.0) ≡ is_eq (nat_cmp q x.0) = ap (λ k. is_eq (nat_cmp q k)) (sym same_keys) in
        ⊎_elim
        (λ b. past_head q x xs s b ∙ sym (past_head q y ys t (e ∙ b)))
        (λ b. sym (lookup_tail (is_at (nat_cmp q)) x xs b) ∙ h q ∙ lookup_tail (is_at (nat_cmp q)) y ys (e ∙ b))
        (cases_Bool (is_eq (nat_cmp q x.0)))

  -- two ascending lists with the same under each key are one
  pub same_pairs : (es fs : List (ℕ × X)) → IsAscending es → IsAscending fs → ((q : ℕ) → at q es ≡ at q fs) → es ≡ fs
  same_pairs [] [] s t h = refl
  same_pairs [] (y ∷ ys) s t h = absurd (not_None y.1 (sym (h y.0 ∙ at_head y ys)))
  same_pairs (x ∷ xs) [] s t h = absurd (not_None x.1 (sym (at_head x xs) ∙ h x.0))
  same_pairs (x ∷ xs) (y ∷ ys) s t h =
      let r = same_pairs xs ys (sorted_tail nat_cmp x.0 (keys_of xs) s) (sorted_tail nat_cmp y.0 (keys_of ys) t) (same_tails x y xs ys s t h) in
      λ i. (same_keys x y xs ys s t h i, same_values x y xs ys s t h i) ∷ r i

-- ---- keys that are numbers

-- whether a key is among some
abbrev pub has : ℕ → List ℕ → Bool
has key keys = list_any (is_at (nat_cmp key)) keys

pub same_key : (q k : ℕ) → is_eq (nat_cmp q k) ≡ true → q ≡ k
same_key q k h = elim (nat_cmp q k) as (λ r. nat_cmp q k ≡ r → is_eq r ≡ true → q ≡ k) [
  | Less ↦ λ e b. absurd (true≢false (sym b))
  | Equal ↦ λ e b. exact_unsigned q k e
  | Greater ↦ λ e b. absurd (true≢false (sym b))
] refl h

pub key_itself : (k : ℕ) → is_eq (nat_cmp k k) ≡ true
key_itself k = ap is_eq (tied_itself nat_cmp_total k)

pub is_eq-cmp : (q k : ℕ) → is_eq (nat_cmp q k) ≡ (k == q)
is_eq-cmp q k =
    ⊎_elim
    (λ h. h ∙ sym (eq-eqb k q (sym (same_key q k h))))
    (λ h. h ∙ sym (false_from_ne_true (k == q) (λ b. true≢false (sym (key_itself q) ∙ ap (λ x. is_eq (nat_cmp q x)) (sym (eqb-true k q b)) ∙ h))))
    (cases_Bool (is_eq (nat_cmp q k)))

or_moved : (a b c : Bool) → ((a || b) || c) ≡ (b || (a || c))
or_moved true true c = refl
or_moved true false c = refl
or_moved false b c = refl

-- the order of keys is ascending, and no key is lost or won
sorted-folded : (acc keys : List ℕ) → AreAscending acc → AreAscending (fold (insert_key nat_cmp) acc keys)
sorted-folded acc [] s = s
sorted-folded acc (k ∷ keys) s = sorted-folded (insert_key nat_cmp acc k) keys (sorted-insert_key nat_cmp nat_cmp_total k acc s)

has-folded : (q : ℕ) (acc keys : List ℕ) → has q (fold (insert_key nat_cmp) acc keys) ≡ (has q acc || has q keys)
has-folded q acc [] = or_false (has q acc)
  where
    or_false : (b : Bool) → b ≡ (b || false)
    or_false true = refl
    or_false false = refl
has-folded q acc (k ∷ keys) =
    has-folded q (insert_key nat_cmp acc k) keys ∙ ap (λ b. b || has q keys) (member-insert_key nat_cmp nat_cmp_total q k acc)
    ∙ or_moved (is_eq (nat_cmp q k)) (has q acc) (has q keys)

-- what holds of each key holds of each in order
all-folded : (P : ℕ → Type 0) (acc keys : List ℕ) → AllByRecursion P acc → AllByRecursion P keys → AllByRecursion P (fold (insert_key nat_cmp) acc keys)
all-folded P acc [] all more = all
all-folded P acc (k ∷ keys) all more = all-folded P (insert_key nat_cmp acc k) keys (all-insert_key nat_cmp nat_cmp_total P k acc more.0 all) more.1

pub all-ascending : (P : ℕ → Type 0) (keys : List ℕ) → AllByRecursion P keys → AllByRecursion P (ascending keys)
all-ascending P keys all = all-folded P [] keys tt all

pub sorted-ascending : (keys : List ℕ) → AreAscending (ascending keys)
unfolding IsStrictlySortedBy
sorted-ascending keys = sorted-folded [] keys tt

pub has-ascending : (q : ℕ) (keys : List ℕ) → has q (ascending keys) ≡ has q keys
has-ascending q keys = has-folded q [] keys

-- what a put leaves under each key
module _ {X : Type 0} where
  pub at-put : (q : ℕ) (e : ℕ × X) (es : List (ℕ × X)) → at q (put_in es e) ≡ cond (is_eq (nat_cmp q e.0)) (Some e.1) (at q es)
  at-put q e es = lookup-insert_entry nat_cmp nat_cmp_total q e.0 e.1 es

  pub ascending-put : (e : ℕ × X) (es : List (ℕ × X)) → IsAscending es → IsAscending (put_in es e)
  ascending-put e es s =
      subst (IsStrictlySortedBy nat_cmp) (sym (keys-insert_entry nat_cmp nat_cmp_total e.0 e.1 es)) (sorted-insert_key nat_cmp nat_cmp_total e.0 (keys_of es) s)

  put_or : (b : Bool) (x : X) (found old : Option X) → (b ≡ true → found ≡ None) → option_or found (cond b (Some x) old) ≡ option_or (cond b (Some x) found) old
  put_or true x found old h = ap (λ f. option_or f (Some x)) (h refl)
  put_or false x found old h = refl

  -- rows put one after the other replace those with their keys
  pub at-puts : (q : ℕ) (es rs : List (ℕ × X)) → IsAscending rs → at q (fold put_in es rs) ≡ option_or (at q rs) (at q es)
  at-puts q es [] s = refl
  at-puts q es (r ∷ rs) s =
      at-puts q (put_in es r) rs (sorted_tail nat_cmp r.0 (keys_of rs) s) ∙ ap (option_or (at q rs)) (at-put q r es)
      ∙ put_or (is_eq (nat_cmp q r.0)) r.1 (at q rs) (at q es) (past_head q r rs s)

  pub ascending-puts : (es rs : List (ℕ × X)) → IsAscending es → IsAscending (fold put_in es rs)
  ascending-puts es [] s = s
  ascending-puts es (r ∷ rs) s = ascending-puts (put_in es r) rs (ascending-put r es s)

  -- what a removal leaves
  pub at-out : (q k : ℕ) (es : List (ℕ × X)) → IsAscending es → at q (taken_out es k) ≡ cond (is_eq (nat_cmp q k)) None (at q es)
  at-out q k es s =
      lookup-remove_entry (eq_by_cmp_equiv nat_cmp_total) (is_at (nat_cmp k)) (λ x y h. (eq_by_cmp_equiv nat_cmp_total).congr k x y h) q es (IsDistinct-from_sorted nat_cmp _ s)
      ∙ ap (λ b. cond b None (at q es)) ((eq_by_cmp_equiv nat_cmp_total).symm k q)

  all-out : (P : ℕ → Type 0) (k : ℕ) (es : List (ℕ × X)) → AllByRecursion P (keys_of es) → AllByRecursion P (keys_of (taken_out es k))
  all-out P k [] all = tt
  all-out P k (e ∷ es) all =
      elim (is_eq (nat_cmp k e.0)) as (λ b. AllByRecursion P (keys_of (cond b es (e ∷ taken_out es k)))) [
        | true ↦ all.1
        | false ↦ (all.0, all-out P k es all.1)
      ]

  pub ascending-out : (k : ℕ) (es : List (ℕ × X)) → IsAscending es → IsAscending (taken_out es k)
  unfolding IsStrictlySortedBy
  ascending-out k [] s = tt
  ascending-out k (e ∷ es) s =
      elim (is_eq (nat_cmp k e.0)) as (λ b. IsAscending (cond b es (e ∷ taken_out es k))) [
        | true ↦ s.1
        | false ↦ (all-out (λ y. nat_cmp e.0 y ≡ Less) k es s.0, ascending-out k es s.1)
      ]

  out_again : (a b : Bool) (x : Option X) → cond b None (cond a None x) ≡ cond (a || b) None x
  out_again true true x = refl
  out_again true false x = refl
  out_again false b x = refl

  pub at-outs : (q : ℕ) (es : List (ℕ × X)) (ks : List ℕ) → IsAscending es → at q (fold taken_out es ks) ≡ cond (has q ks) None (at q es)
  at-outs q es [] s = refl
  at-outs q es (k ∷ ks) s =
      at-outs q (taken_out es k) ks (ascending-out k es s) ∙ ap (λ x. cond (has q ks) None x) (at-out q k es s)
      ∙ out_again (is_eq (nat_cmp q k)) (has q ks) (at q es)

  pub ascending-outs : (es : List (ℕ × X)) (ks : List ℕ) → IsAscending es → IsAscending (fold taken_out es ks)
  ascending-outs es [] s = s
  ascending-outs es (k ∷ ks) s = ascending-outs (taken_out es k) ks (ascending-out k es s)

  -- the pairs of a function's values
  pub all-pairs_at : (P : ℕ → Type 0) (value : ℕ → Option X) (ks : List ℕ) → AllByRecursion P ks → AllByRecursion P (keys_of (pairs_at value ks))
  all-pairs_at P value [] all = tt
  all-pairs_at P value (k ∷ ks) all =
      elim (value k) as (λ v. AllByRecursion P (keys_of (cons_option (option_map (λ x. (k, x)) v) (pairs_at value ks)))) [
        | None ↦ all-pairs_at P value ks all.1
        | Some x ↦ (all.0, all-pairs_at P value ks all.1)
      ]

  pub ascending-pairs_at : (value : ℕ → Option X) (ks : List ℕ) → AreAscending ks → IsAscending (pairs_at value ks)
  unfolding IsStrictlySortedBy
  ascending-pairs_at value [] s = tt
  ascending-pairs_at value (k ∷ ks) s =
      elim (value k) as (λ v. IsAscending (cons_option (option_map (λ x. (k, x)) v) (pairs_at value ks))) [
        | None ↦ ascending-pairs_at value ks s.1
        | Some x ↦ (all-pairs_at (λ y. nat_cmp k y ≡ Less) value ks s.0, ascending-pairs_at value ks s.1)
      ]

  no_pair : (b : Bool) (had : Bool) (found : Option X) → (b ≡ true → found ≡ None) → cond had found None ≡ cond (b || had) found None
  no_pair true true found h = refl
  no_pair true false found h = sym (h refl)
  no_pair false had found h = refl

  one_pair : (b : Bool) (had : Bool) (x : X) (found : Option X) → (b ≡ true → found ≡ Some x) → cond b (Some x) (cond had found None) ≡ cond (b || had) found None
  one_pair true had x found h = sym (h refl)
  one_pair false had x found h = refl

  pub at-pairs_at : (q : ℕ) (value : ℕ → Option X) (ks : List ℕ) → at q (pairs_at value ks) ≡ cond (has q ks) (value q) None
  at-pairs_at q value [] = refl
  at-pairs_at q value (k ∷ ks) =
      elim (value k) as (λ v. value k ≡ v → at q (cons_option (option_map (λ x. (k, x)) v) (pairs_at value ks)) ≡ cond (is_eq (nat_cmp q k) || has q ks) (value q) None) [
        | None ↦ λ e. at-pairs_at q value ks ∙ no_pair (is_eq (nat_cmp q k)) (has q ks) (value q) (λ b. ap value (same_key q k b) ∙ e)
        | Some x ↦ λ e. ap (λ w. cond (is_eq (nat_cmp q k)) (Some x) w) (at-pairs_at q value ks)
            ∙ one_pair (is_eq (nat_cmp q k)) (has q ks) x (value q) (λ b. ap value (same_key q k b) ∙ e)
      ] refl

  -- a filter by the keys
  pub at-filter : (q : ℕ) (p : ℕ → Bool) (es : List (ℕ × X)) → at q (filter (λ e. p e.0) es) ≡ cond (p q) (at q es) None
  at-filter q p es = lookup-filter-keys (is_at (nat_cmp q)) p (p q) (λ k h. ap p (sym (same_key q k h))) es

  all-filter : (P : ℕ → Type 0) (p : ℕ × X → Bool) (es : List (ℕ × X)) → AllByRecursion P (keys_of es) → AllByRecursion P (keys_of (filter p es))
  all-filter P p [] all = tt
  all-filter P p (e ∷ es) all = elim (p e) as (λ b. AllByRecursion P (keys_of (cond b (e ∷ filter p es) (filter p es)))) [
    | true ↦ (all.0, all-filter P p es all.1)
    | false ↦ all-filter P p es all.1
  ]

  pub ascending-filter : (p : ℕ × X → Bool) (es : List (ℕ × X)) → IsAscending es → IsAscending (filter p es)
  unfolding IsStrictlySortedBy
  ascending-filter p [] s = tt
  ascending-filter p (e ∷ es) s = elim (p e) as (λ b. IsAscending (cond b (e ∷ filter p es) (filter p es))) [
    | true ↦ (all-filter (λ y. nat_cmp e.0 y ≡ Less) p es s.0, ascending-filter p es s.1)
    | false ↦ ascending-filter p es s.1
  ]

pub has-filter : (q : ℕ) (p : ℕ → Bool) (ks : List ℕ) → has q (filter p ks) ≡ (p q && has q ks)
has-filter q p ks = any-filter_same (is_at (nat_cmp q)) p (p q) (λ k h. ap p (sym (same_key q k h))) ks

pub all-kept : (P : ℕ → Type 0) (p : ℕ → Bool) (ks : List ℕ) → AllByRecursion P ks → AllByRecursion P (filter p ks)
all-kept P p [] all = tt
all-kept P p (k ∷ ks) all = elim (p k) as (λ b. AllByRecursion P (cond b (k ∷ filter p ks) (filter p ks))) [
  | true ↦ (all.0, all-kept P p ks all.1)
  | false ↦ all-kept P p ks all.1
]

pub sorted-filter : (p : ℕ → Bool) (ks : List ℕ) → AreAscending ks → AreAscending (filter p ks)
unfolding IsStrictlySortedBy
sorted-filter p [] s = tt
sorted-filter p (k ∷ ks) s = elim (p k) as (λ b. AreAscending (cond b (k ∷ filter p ks) (filter p ks))) [
  | true ↦ (all-kept (λ y. nat_cmp k y ≡ Less) p ks s.0, sorted-filter p ks s.1)
  | false ↦ sorted-filter p ks s.1
]

-- a map that leaves the keys
module _ {X Y : Type 0} (f : ℕ × X → ℕ × Y) (keeps : (e : ℕ × X) → (f e).0 ≡ e.0) where
  pub keys-map : (es : List (ℕ × X)) → keys_of (map f es) ≡ keys_of es
  keys-map [] = refl
  keys-map (e ∷ es) = λ i. keeps e i ∷ keys-map es i

  pub ascending-map : (es : List (ℕ × X)) → IsAscending es → IsAscending (map f es)
  ascending-map es s = subst (IsStrictlySortedBy nat_cmp) (sym (keys-map es)) s

  pub at-map : (q : ℕ) (es : List (ℕ × X)) → at q (map f es) ≡ option_map (λ x. (f (q, x)).1) (at q es)
  at-map q [] = refl
  at-map q (e ∷ es) =
      ap (λ k. cond (is_eq (nat_cmp q k)) (Some (f e).1) (at q (map f es))) (keeps e) ∙ ap (λ w. cond (is_eq (nat_cmp q e.0)) (Some (f e).1) w) (at-map q es)
      ∙ mapped (is_eq (nat_cmp q e.0)) refl
    where
      mapped : (b : Bool) → is_eq (nat_cmp q e.0) ≡ b → cond b (Some (f e).1) (option_map (λ x. (f (q, x)).1) (at q es)) ≡ option_map (λ x. (f (q, x)).1) (cond b (Some e.1) (at q es))
      mapped true h = ap (λ k. Some (f (k, e.1)).1) (sym (same_key q e.0 h))
      mapped false h = refl

-- the keys of pairs
pub has-keys_of : {X : Type 0} (q : ℕ) (es : List (ℕ × X)) → has q (keys_of es) ≡ is_some (at q es)
has-keys_of q [] = refl
has-keys_of q (e ∷ es) = ap (λ b. is_eq (nat_cmp q e.0) || b) (has-keys_of q es) ∙ sym (some_or (is_eq (nat_cmp q e.0)) e.1 (at q es))
  where
    some_or : {X : Type 0} (b : Bool) (x : X) (found : Option X) → is_some (cond b (Some x) found) ≡ (b || is_some found)
    some_or true x found = refl
    some_or false x found = refl

-- ---- how many pairs there are

pub few_pairs : {A : Type 0} (value : ℕ → Option A) (ks : List ℕ) → length (pairs_at value ks) ≤ length ks
few_pairs value [] = omega arith
few_pairs value (k ∷ ks) = elim (value k) as (λ v. length (cons_option (option_map (λ x. (k, x)) v) (pairs_at value ks)) ≤ length (k ∷ ks)) [
  | None ↦ omega (arith, few_pairs value ks)
  | Some x ↦ omega (arith, few_pairs value ks)
]

-- what holds of each number that is among some keys
all_among : (P : ℕ → Type 0) (ks : List ℕ) → ((q : ℕ) → has q ks ≡ true → P q) → AllByRecursion P ks
all_among P [] h = tt
all_among P (k ∷ ks) h = (h k (or_left (is_eq (nat_cmp k k)) (has k ks) (key_itself k)), all_among P ks (λ q e. h q (or_right (is_eq (nat_cmp q k)) (has q ks) e)))

all_both : {P Q R : ℕ → Type 0} → ((k : ℕ) → P k → Q k → R k) → (ks : List ℕ) → AllByRecursion P ks → AllByRecursion Q ks → AllByRecursion R ks
all_both h [] p q = tt
all_both h (k ∷ ks) p q = (h k p.0 q.0, all_both h ks p.1 q.1)

-- ascending keys in a range are at most as many as its numbers
few_keys_between : (low high : ℕ) (ks : List ℕ) → low ≤ high → AreAscending ks → AllByRecursion (λ k. (low ≤ k) × (k < high)) ks → length ks + low ≤ high
unfolding IsStrictlySortedBy
few_keys_between low high [] le s all = omega (arith, le)
few_keys_between low high (k ∷ ks) le s all =
    let rest = few_keys_between (k + 1) high ks (omega (arith, all.0.1)) s.1
    (all_both {Q = λ y. (low ≤ y) × (y < high)} {R = λ y. (k + 1 ≤ y) × (y < high)} (λ y l w. (omega (arith, ranked k y Less (sym l)), w.1)) ks s.0 all.1) in
    omega (arith, rest, all.0.0)

pub few_between : {A : Type 0} (low high : ℕ) (es : List (ℕ × A)) → low ≤ high → IsAscending es → ((q : ℕ) → is_some (at q es) ≡ true → (low ≤ q) × (q < high)) → length es + low ≤ high
few_between low high es le s h =
    let few = few_keys_between low high (keys_of es) le s (all_among (λ k. (low ≤ k) × (k < high)) (keys_of es) (λ q e. h q (sym (has-keys_of q es) ∙ e))) in
    omega (arith, few, length-keys_of es)

-- ---- ascending lists of the same keys

abbrev marked : List ℕ → List (ℕ × Unit {0})
marked ks = map (λ k. (k, tt)) ks

keys-marked : (ks : List ℕ) → keys_of (marked ks) ≡ ks
keys-marked [] = refl
keys-marked (k ∷ ks) = ap (λ l. k ∷ l) (keys-marked ks)

mark_or : (a b : Bool) → cond a (Some (tt {0})) (cond b (Some (tt {0})) None) ≡ cond (a || b) (Some (tt {0})) None
mark_or true b = refl
mark_or false b = refl

at-marked : (q : ℕ) (ks : List ℕ) → at q (marked ks) ≡ cond (has q ks) (Some tt) None
at-marked q [] = refl
at-marked q (k ∷ ks) = ap (λ w. cond (is_eq (nat_cmp q k)) (Some tt) w) (at-marked q ks) ∙ mark_or (is_eq (nat_cmp q k)) (has q ks)

-- two ascending lists of the same keys are one
pub same_keys_same : (ks js : List ℕ) → AreAscending ks → AreAscending js → ((q : ℕ) → has q ks ≡ has q js) → ks ≡ js
same_keys_same ks js s t h =
    sym (keys-marked ks)
    ∙ ap keys_of
    (same_pairs (marked ks) (marked js) (subst (IsStrictlySortedBy nat_cmp) (sym (keys-marked ks)) s) (subst (IsStrictlySortedBy nat_cmp) (sym (keys-marked js)) t)
    (λ q. at-marked q ks ∙ ap (λ b. cond b (Some tt) None) (h q) ∙ sym (at-marked q js)))
    ∙ keys-marked js
