-- Different numbers below a bound: if there are as many as the bound allows, they are all of them.
use Rattle.std.proofs.Common.{◌≡◌, ◌⊎◌, ◌<◌, ◌==◌, ◌||◌, ℕ, zero, suc, Bool, true, false, List, [], ◌∷◌, ◌++◌, length, refl, sym, subst, ap, ◌∙◌, inl, inr, arith, eq-eqb, ne_eqb}
use Rattle.std.proofs.lemmas.Bool.{eqb-true}
use Rattle.std.proofs.lemmas.List.Elements.{Contains-append_right, Contains-push_cases}
use Rattle.std.proofs.lemmas.Map.Steps.{length-le_from_distinct_below}
use Rattle.std.specs.List.{AllByRecursion, IsDistinct, list_any}
use Rattle.std.specs.Prelude.{Contains}
use Rattle.share_crew.specs.WorkerRuns.{AreDistinct}

pub contains_head : {A : Type 0} (x : A) (xs : List A) → Contains (x ∷ xs) x
contains_head x xs = (0, omega arith, refl)

pub contains_tail : {A : Type 0} (x y : A) (xs : List A) → Contains xs x → Contains (y ∷ xs) x
contains_tail x y xs has = Contains-append_right (y ∷ []) xs x has

found_at : (q x : ℕ) (xs : List ℕ) (b : Bool) → (q == x) ≡ b → (list_any (λ y. q == y) xs ≡ true → Contains xs q) → (b || list_any (λ y. q == y) xs) ≡ true → Contains (x ∷ xs) q
found_at q x xs true is rest found = subst (λ y. Contains (x ∷ xs) y) (sym (eqb-true q x is)) (contains_head x xs)
found_at q x xs false is rest found = contains_tail q x xs (rest found)

-- what a test finds is in the list
any_contains : (q : ℕ) (xs : List ℕ) → list_any (λ x. q == x) xs ≡ true → Contains xs q
any_contains q [] found = absurd (cc)
any_contains q (x ∷ xs) found = found_at q x xs (q == x) refl (any_contains q xs) found

or_true : (b : Bool) → (b || true) ≡ true
or_true true = refl
or_true false = refl

pub head_or_tail : (q x : ℕ) (xs : List ℕ) → Contains (x ∷ xs) q → (q ≡ x) ⊎ Contains xs q
head_or_tail q x xs (zero, less, is) = inl (sym is)
head_or_tail q x xs (suc k, less, is) = inr (k, omega arith, is)

stands_at : (q x : ℕ) (xs : List ℕ) → (Contains xs q → list_any (λ y. q == y) xs ≡ true) → (q ≡ x) ⊎ Contains xs q → ((q == x) || list_any (λ y. q == y) xs) ≡ true
stands_at q x xs rest (inl is) = ap (λ (b : Bool). b || list_any (λ y. q == y) xs) (eq-eqb q x is)
stands_at q x xs rest (inr has) = ap (λ (b : Bool). (q == x) || b) (rest has) ∙ or_true (q == x)

-- a test finds what is in the list
contains_any : (q : ℕ) (xs : List ℕ) → Contains xs q → list_any (λ x. q == x) xs ≡ true
contains_any q [] has = let h = has.1 in absurd (omega arith)
contains_any q (x ∷ xs) has = stands_at q x xs (contains_any q xs) (head_or_tail q x xs has)

none_equal : (n : ℕ) (ns : List ℕ) → ¬ (Contains ns n) → AllByRecursion (λ m. (n == m) ≡ false) ns
none_equal n [] none = tt
none_equal n (m ∷ ms) none =
    (ne_eqb n m (λ is. none (subst (λ y. Contains (m ∷ ms) y) (sym is) (contains_head m ms))), none_equal n ms (λ has. none (contains_tail n m ms has)))

pub distinct : (ns : List ℕ) → AreDistinct ns → IsDistinct (λ m n. m == n) ns
unfolding IsDistinct
distinct [] differ = tt
distinct (n ∷ ns) differ = (none_equal n ns differ.0, distinct ns differ.1)

pub differ_push : (ns : List ℕ) (n : ℕ) → AreDistinct ns → ¬ (Contains ns n) → AreDistinct (ns ++ n ∷ [])
differ_push [] n differ other = ((λ has. let h = has.1 in absurd (omega arith)), tt)
differ_push (m ∷ ms) n differ other = (
  (λ has. apart (Contains-push_cases ms n m has)),
  differ_push ms n differ.1 (λ has. other (contains_tail n m ms has)),
)
  where
    apart : Contains ms m ⊎ (n ≡ m) → ⊥
    apart (inl has) = differ.0 has
    apart (inr is) = other (subst (λ y. Contains (m ∷ ms) y) (sym is) (contains_head m ms))

below_at : (n q x : ℕ) (xs : List ℕ) (b : Bool) → (q == x) ≡ b → x < n → (list_any (λ y. q == y) xs ≡ true → q < n) → (b || list_any (λ y. q == y) xs) ≡ true → q < n
below_at n q x xs true is less rest found = subst (λ y. y < n) (sym (eqb-true q x is)) less
below_at n q x xs false is less rest found = rest found

below_any : (n : ℕ) (xs : List ℕ) → AllByRecursion (λ x. x < n) xs → (q : ℕ) → list_any (λ x. q == x) xs ≡ true → q < n
below_any n [] below q found = absurd (cc)
below_any n (x ∷ xs) below q found = below_at n q x xs (q == x) refl below.0 (below_any n xs below.1 q) found

-- one more would be too many
no_other : (n : ℕ) (xs : List ℕ) → AreDistinct xs → AllByRecursion (λ x. x < n) xs → length xs ≡ n → (q : ℕ) → q < n → ¬ (Contains xs q) → ⊥
no_other n xs differ below count q less other =
    let most = length-le_from_distinct_below (q ∷ xs) n (distinct (q ∷ xs) (other, differ)) (below_any n (q ∷ xs) (less, below)) in
    omega (arith, most, count)

found_or_not : (n : ℕ) (xs : List ℕ) (q : ℕ) → (¬ (Contains xs q) → ⊥) → (b : Bool) → list_any (λ x. q == x) xs ≡ b → Contains xs q
found_or_not n xs q other true found = any_contains q xs found
found_or_not n xs q other false none = absurd (other (λ has. absurd (let f : true ≡ false = sym (contains_any q xs has) ∙ none in cc)))

-- as many different numbers as there are below a bound are all of them
pub each_stands : (n : ℕ) (xs : List ℕ) → AreDistinct xs → AllByRecursion (λ x. x < n) xs → length xs ≡ n → (q : ℕ) → q < n → Contains xs q
each_stands n xs differ below count q less = found_or_not n xs q (no_other n xs differ below count q less) (list_any (λ x. q == x) xs) refl
