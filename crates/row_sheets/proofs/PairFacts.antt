-- Pairs in ascending order of the key, one list after another: what is under a key, and how the order is kept.
use Rattle.std.proofs.Common.{◌≡◌, ◌≤◌, ◌<◌, ◌+◌, ◌++◌, ◌≢◌, ⊎_elim, ℕ, arith, Bool, true, false, cond, List, [], ◌∷◌, refl, sym, ap, ◌∙◌, Option, Some, None, Less, nat_cmp, is_eq, is_some, length, get_or, take, drop, subst}
use Rattle.std.specs.Option.{option_or}
use Rattle.std.specs.List.{AllByRecursion}
use Rattle.std.specs.List.Sorted.{IsStrictlySortedBy}
use Rattle.std.specs.Map.{keys_of}
use Rattle.std.proofs.lemmas.Bool.{false_from_ne_true, lt-ltb, cases_lt}
use Rattle.std.proofs.lemmas.Cmp.{ranked}
use Rattle.std.proofs.lemmas.List.{take_more, drop_more, take-append-drop}
use Rattle.share_history.specs.Keyed.{at, IsAscending}
use Rattle.share_history.proofs.KeyedFacts.{same_key, key_itself}
use Rattle.row_sheets.specs.Turns.{AreUnder, AreAbove}

not_at : (q k : ℕ) → q ≢ k → is_eq (nat_cmp q k) ≡ false
not_at q k ne = false_from_ne_true (is_eq (nat_cmp q k)) (λ h. ne (same_key q k h))

less : (a b : ℕ) → a < b → nat_cmp a b ≡ Less
less a b h = rw (lt-ltb a b h)

module _ {A : Type 0} where
  or_none : (o : Option A) → option_or o None ≡ o
  or_none None = refl
  or_none (Some x) = refl

  none_first : (o p : Option A) → option_or o p ≡ None → o ≡ None
  none_first None p h = refl
  none_first (Some x) p h = h

  none_second : (o p : Option A) → option_or o p ≡ None → p ≡ None
  none_second None p h = h
  none_second (Some x) p h = absurd (cc)

  moved : (t : Bool) (x : A) (o p : Option A) → cond t (Some x) (option_or o p) ≡ option_or (cond t (Some x) o) p
  moved true x o p = refl
  moved false x o p = refl

  -- the first list decides, where it has the key
  at-append : (id : ℕ) (a b : List (ℕ × A)) → at id (a ++ b) ≡ option_or (at id a) (at id b)
  at-append id [] b = refl
  at-append id (e ∷ a) b = ap (λ w. cond (is_eq (nat_cmp id e.0)) (Some e.1) w) (at-append id a b) ∙ moved (is_eq (nat_cmp id e.0)) e.1 (at id a) (at id b)

  pub at_first : (id : ℕ) (a b : List (ℕ × A)) → at id b ≡ None → at id (a ++ b) ≡ at id a
  at_first id a b h = at-append id a b ∙ ap (option_or (at id a)) h ∙ or_none (at id a)

  pub at_second : (id : ℕ) (a b : List (ℕ × A)) → at id a ≡ None → at id (a ++ b) ≡ at id b
  at_second id a b h = at-append id a b ∙ ap (λ o. option_or o (at id b)) h

  pub at_found : (id : ℕ) (a b : List (ℕ × A)) (x : A) → at id a ≡ Some x → at id (a ++ b) ≡ Some x
  at_found id a b x h = at-append id a b ∙ ap (λ o. option_or o (at id b)) h

  -- a key that neither list has
  pub none_before : (id : ℕ) (a b : List (ℕ × A)) → at id (a ++ b) ≡ None → at id a ≡ None
  none_before id a b h = none_first (at id a) (at id b) (sym (at-append id a b) ∙ h)

  pub none_after : (id : ℕ) (a b : List (ℕ × A)) → at id (a ++ b) ≡ None → at id b ≡ None
  none_after id a b h = none_second (at id a) (at id b) (sym (at-append id a b) ∙ h)

  none_in_tail : (t : Bool) (x : A) (o : Option A) → cond t (Some x) o ≡ None → o ≡ None
  none_in_tail true x o h = absurd (cc)
  none_in_tail false x o h = h

  some_later : (t : Bool) (x : A) (o : Option A) → is_some o ≡ true → is_some (cond t (Some x) o) ≡ true
  some_later true x o h = refl
  some_later false x o h = h

  some_here : (t : Bool) (x : A) (o : Option A) → t ≡ true → is_some (cond t (Some x) o) ≡ true
  some_here true x o h = refl
  some_here false x o h = absurd (cc)

  -- what holds of each number that is a key
  all_keys : (P : ℕ → Type 0) (es : List (ℕ × A)) → ((q : ℕ) → is_some (at q es) ≡ true → P q) → AllByRecursion P (keys_of es)
  all_keys P [] h = tt
  all_keys P (e ∷ es) h = (h e.0 (some_here (is_eq (nat_cmp e.0 e.0)) e.1 (at e.0 es) (key_itself e.0)), all_keys P es (λ q k. h q (some_later (is_eq (nat_cmp q e.0)) e.1 (at q es) k)))

  all_append : (P : ℕ → Type 0) (a b : List (ℕ × A)) → AllByRecursion P (keys_of a) → AllByRecursion P (keys_of b) → AllByRecursion P (keys_of (a ++ b))
  all_append P [] b all more = more
  all_append P (e ∷ a) b all more = (all.0, all_append P a b all.1 more)

  all_first : (P : ℕ → Type 0) (a b : List (ℕ × A)) → AllByRecursion P (keys_of (a ++ b)) → AllByRecursion P (keys_of a)
  all_first P [] b all = tt
  all_first P (e ∷ a) b all = (all.0, all_first P a b all.1)

  all_second : (P : ℕ → Type 0) (a b : List (ℕ × A)) → AllByRecursion P (keys_of (a ++ b)) → AllByRecursion P (keys_of b)
  all_second P [] b all = all
  all_second P (e ∷ a) b all = all_second P a b all.1

  -- each part of an ascending list ascends
  pub ascending_first : (a b : List (ℕ × A)) → IsAscending (a ++ b) → IsAscending a
  unfolding IsStrictlySortedBy
  ascending_first [] b s = tt
  ascending_first (e ∷ a) b s = (all_first (λ y. nat_cmp e.0 y ≡ Less) a b s.0, ascending_first a b s.1)

  pub ascending_second : (a b : List (ℕ × A)) → IsAscending (a ++ b) → IsAscending b
  unfolding IsStrictlySortedBy
  ascending_second [] b s = s
  ascending_second (e ∷ a) b s = ascending_second a b s.1

  some_not_none : (o : Option A) → is_some o ≡ true → o ≢ None
  some_not_none None h e = absurd (cc)
  some_not_none (Some x) h e = absurd (cc)

  -- a key that is there is not below what all keys are above
  not_below : (bound q : ℕ) (es : List (ℕ × A)) → AreAbove bound es → is_some (at q es) ≡ true → bound ≤ q
  not_below bound q es above h = ⊎_elim (λ l. absurd (some_not_none (at q es) h (above q l))) (λ l. l) (cases_lt q bound)

  not_above : (bound q : ℕ) (es : List (ℕ × A)) → AreUnder bound es → is_some (at q es) ≡ true → q < bound
  not_above bound q es under h = ⊎_elim (λ l. l) (λ l. absurd (some_not_none (at q es) h (under q l))) (cases_lt q bound)

  -- where a key is found, its bounds are known
  pub found_above : (bound q : ℕ) (es : List (ℕ × A)) (x : A) → AreAbove bound es → at q es ≡ Some x → bound ≤ q
  found_above bound q es x above h = not_below bound q es above (ap is_some h)

  pub found_under : (bound q : ℕ) (es : List (ℕ × A)) (x : A) → AreUnder bound es → at q es ≡ Some x → q < bound
  found_under bound q es x under h = not_above bound q es under (ap is_some h)

  pub under_tail : (bound : ℕ) (e : ℕ × A) (es : List (ℕ × A)) → AreUnder bound (e ∷ es) → AreUnder bound es
  under_tail bound e es under = λ id le. none_in_tail (is_eq (nat_cmp id e.0)) e.1 (at id es) (under id le)

  -- a list that ends below where another begins
  pub ascending_join : (bound : ℕ) (a b : List (ℕ × A)) → IsAscending a → IsAscending b → AreUnder bound a → AreAbove bound b → IsAscending (a ++ b)
  unfolding IsStrictlySortedBy
  ascending_join bound [] b s t under above = t
  ascending_join bound (e ∷ a) b s t under above =
      let lt : e.0 < bound = not_above bound e.0 (e ∷ a) under (some_here (is_eq (nat_cmp e.0 e.0)) e.1 (at e.0 a) (key_itself e.0)) in (
        all_append (λ y. nat_cmp e.0 y ≡ Less) a b s.0
            (all_keys (λ y. nat_cmp e.0 y ≡ Less) b (λ q k. let le : bound ≤ q = not_below bound q b above k in less e.0 q (omega arith))),
        ascending_join bound a b s.1 t (under_tail bound e a under) above,
      )

  -- no key is at or below a number that is below all keys
  none_at : (k id : ℕ) (es : List (ℕ × A)) → AllByRecursion (λ y. nat_cmp k y ≡ Less) (keys_of es) → id ≤ k → at id es ≡ None
  none_at k id [] all le = refl
  none_at k id (e ∷ es) all le =
      let lt : k < e.0 = ranked k e.0 Less (sym all.0) in
      ap (λ t. cond t (Some e.1) (at id es)) (not_at id e.0 (λ h. absurd (omega (arith, h, lt, le)))) ∙ none_at k id es all.1 le

  -- one key is under the next number
  pub under_one : (k : ℕ) (x : A) → AreUnder (k + 1) ((k, x) ∷ [])
  under_one k x = λ id le. ap (λ t. cond t (Some x) None) (not_at id k (λ h. absurd (omega (arith, h, le))))

  -- in an ascending list all keys after one are above it
  pub above_head : (e : ℕ × A) (es : List (ℕ × A)) → IsAscending (e ∷ es) → AreAbove (e.0 + 1) es
  unfolding IsStrictlySortedBy
  above_head e es s = λ id lt. none_at e.0 id es s.0 (omega arith)

  -- and no key is below the first
  pub above_all : (e : ℕ × A) (es : List (ℕ × A)) → IsAscending (e ∷ es) → AreAbove e.0 (e ∷ es)
  above_all e es s = λ id lt.
      ap (λ t. cond t (Some e.1) (at id es)) (not_at id e.0 (λ h. absurd (omega (arith, h, lt)))) ∙ above_head e es s id (omega arith)

  -- in an ascending list each key before one is below it
  key_before : (x e : ℕ × A) (a b : List (ℕ × A)) → AllByRecursion (λ y. nat_cmp x.0 y ≡ Less) (keys_of ((a ++ e ∷ []) ++ b)) → x.0 < e.0
  key_before x e [] b all = ranked x.0 e.0 Less (sym all.0)
  key_before x e (y ∷ a) b all = key_before x e a b all.1

  -- the keys up to one of an ascending list
  pub under_last : (a : List (ℕ × A)) (e : ℕ × A) (b : List (ℕ × A)) → IsAscending ((a ++ e ∷ []) ++ b) → AreUnder (e.0 + 1) (a ++ e ∷ [])
  unfolding IsStrictlySortedBy
  under_last [] e b s = λ id le. ap (λ t. cond t (Some e.1) None) (not_at id e.0 (λ h. absurd (omega (arith, h, le))))
  under_last (x ∷ a) e b s = λ id le.
      let lt : x.0 < e.0 = key_before x e a b s.0 in
      ap (λ t. cond t (Some x.1) (at id (a ++ e ∷ []))) (not_at id x.0 (λ h. absurd (omega (arith, h, le, lt)))) ∙ under_last a e b s.1 id le

  -- and those after it
  pub above_last : (a : List (ℕ × A)) (e : ℕ × A) (b : List (ℕ × A)) → IsAscending ((a ++ e ∷ []) ++ b) → AreAbove (e.0 + 1) b
  unfolding IsStrictlySortedBy
  above_last [] e b s = above_head e b s
  above_last (x ∷ a) e b s = above_last a e b s.1

  -- one key more that is below a bound
  pub under_more : (bound : ℕ) (es : List (ℕ × A)) (i : ℕ) (d : ℕ × A) → i < length es → (get_or es i d).0 < bound → AreUnder bound (take i es) → AreUnder bound (take (i + 1) es)
  under_more bound es i d lt below under = λ id le.
      ap (at id) (take_more es i d lt) ∙ at_second id (take i es) (get_or es i d ∷ []) (under id le)
      ∙ ap (λ t. cond t (Some (get_or es i d).1) None) (not_at id (get_or es i d).0 (λ h. absurd (omega (arith, h, le, below))))

  -- from a key on that is not below a bound all are above it
  pub above_from : (bound : ℕ) (es : List (ℕ × A)) (i : ℕ) (d : ℕ × A) → i < length es → bound ≤ (get_or es i d).0 → IsAscending es → AreAbove bound (drop i es)
  above_from bound es i d lt le s = λ id below.
      let e : drop i es ≡ get_or es i d ∷ drop (i + 1) es = drop_more es i d lt in
      let t : IsAscending (take i es ++ drop i es) = subst IsAscending (sym (take-append-drop i es)) s in
      ap (at id) e ∙ above_all (get_or es i d) (drop (i + 1) es) (subst IsAscending e (ascending_second (take i es) (drop i es) t)) id (omega (arith, below, le))
