-- First mentions are unchanged by taking first mentions, and are no more than the mentions.
use Rattle.std.proofs.Common.{◌≡◌, ◌≤◌, ◌+◌, ℕ, Bool, true, false, not, List, [], ◌∷◌, length, cond, refl, ap, sym, subst, ◌∙◌, arith, Option, Some, None}
use Rattle.std.specs.List.{filter, filter_map, cons_option}
use Rattle.item_model.specs.declared.property.Property.{Property}
use Rattle.item_model.specs.Properties.{is_same}
use Rattle.item_model.specs.Projection.{first_mentions}
use Rattle.item_model.proofs.Ranks.{same_property}

-- all but one property
abbrev but : Property → List Property → List Property
but q xs = filter (λ r. not (is_same q r)) xs

twice_step : (N : Property → Bool) (x : Property) (xs : List Property) (b : Bool) → N x ≡ b → filter N (filter N xs) ≡ filter N xs → filter N (cond b (x ∷ filter N xs) (filter N xs)) ≡ cond b (x ∷ filter N xs) (filter N xs)
twice_step N x xs true h ih = rw h (ap (λ ys. x ∷ ys) ih)
twice_step N x xs false h ih = ih

-- a filter applied twice is the filter applied once
twice : (N : Property → Bool) (xs : List Property) → filter N (filter N xs) ≡ filter N xs
twice N [] = refl
twice N (x ∷ xs) = twice_step N x xs (N x) refl (twice N xs)

order_step : (M N : Property → Bool) (x : Property) (xs : List Property) (m n : Bool) → M x ≡ m → N x ≡ n → filter M (filter N xs) ≡ filter N (filter M xs) → filter M (cond n (x ∷ filter N xs) (filter N xs)) ≡ filter N (cond m (x ∷ filter M xs) (filter M xs))
order_step M N x xs true true h k ih = rw (h, k) (ap (λ ys. x ∷ ys) ih)
order_step M N x xs true false h k ih = rw k ih
order_step M N x xs false true h k ih = rw h ih
order_step M N x xs false false h k ih = ih

-- two filters may be applied in either order
order : (M N : Property → Bool) (xs : List Property) → filter M (filter N xs) ≡ filter N (filter M xs)
order M N [] = refl
order M N (x ∷ xs) = order_step M N x xs (M x) (N x) refl refl (order M N xs)

but_step : (q x : Property) (rest firsts : List Property) (s : Bool) → is_same q x ≡ s → first_mentions rest ≡ but q firsts → first_mentions (cond (not s) (x ∷ rest) rest) ≡ filter (λ r. not (is_same q r)) (x ∷ but x firsts)
but_step q x rest firsts true h ih =
    rw h (ih ∙ sym (subst (λ y. but q (but y firsts) ≡ but q firsts) (same_property q x h) (twice (λ r. not (is_same q r)) firsts)))
but_step q x rest firsts false h ih =
    rw h (ap (λ ys. x ∷ ys) (ap (but x) ih ∙ order (λ r. not (is_same x r)) (λ r. not (is_same q r)) firsts))

-- the first mentions without a property are those of the others
first_but : (q : Property) (xs : List Property) → first_mentions (but q xs) ≡ but q (first_mentions xs)
first_but q [] = refl
first_but q (x ∷ xs) = but_step q x (but q xs) (first_mentions xs) (is_same q x) refl (first_but q xs)

-- the first mentions of first mentions are the same
pub first_again : (xs : List Property) → first_mentions (first_mentions xs) ≡ first_mentions xs
first_again [] = refl
first_again (q ∷ xs) =
    ap (λ ys. q ∷ ys)
    (ap (but q) (first_but q (first_mentions xs) ∙ ap (but q) (first_again xs)) ∙ twice (λ r. not (is_same q r)) (first_mentions xs))

filter_step : (b : Bool) (x : Property) (ys : List Property) (n : ℕ) → length ys ≤ n → length (cond b (x ∷ ys) ys) ≤ n + 1
filter_step true x ys n h = omega arith
filter_step false x ys n h = omega arith

filter_fewer : (N : Property → Bool) (xs : List Property) → length (filter N xs) ≤ length xs
filter_fewer N [] = omega arith
filter_fewer N (x ∷ xs) = omega (arith, filter_step (N x) x (filter N xs) (length xs) (filter_fewer N xs))

-- no more first mentions than mentions
pub first_fewer : (xs : List Property) → length (first_mentions xs) ≤ length xs
first_fewer [] = omega arith
first_fewer (x ∷ xs) = omega (arith, filter_fewer (λ r. not (is_same x r)) (first_mentions xs), first_fewer xs)

known_step : (o : Option Property) (ys : List Property) (n : ℕ) → length ys ≤ n → length (cons_option o ys) ≤ n + 1
known_step None ys n h = omega arith
known_step (Some y) ys n h = omega arith

-- no more known names than names
pub known_fewer : (known : List ℕ → Option Property) (names : List (List ℕ)) → length (filter_map known names) ≤ length names
known_fewer known [] = omega arith
known_fewer known (name ∷ names) =
    omega (arith, known_step (known name) (filter_map known names) (length names) (known_fewer known names))
