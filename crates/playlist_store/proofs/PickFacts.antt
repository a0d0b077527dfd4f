-- What a loop over edits or ids has so far.
use Rattle.std.proofs.Common.{◌≡◌, ◌<◌, ◌≤◌, ◌+◌, ℕ, Bool, true, false, cond, ◌&&◌, ◌||◌, ◌==◌, List, ◌∷◌, ◌++◌, length, take, drop, get_or, flat_map, Option, refl, sym, ap, ◌∙◌, true≢false}
use Rattle.std.specs.Prelude.{nat_le}
use Rattle.std.proofs.lemmas.List.{at_drop_all, append_assoc, append-nil}
use Rattle.std.proofs.lemmas.List.Folds.{list_any_more, list_any_at}
use Rattle.key_versions.specs.Held.{Held, value_at, is_among}

-- what one more element adds
pub picked_more : {X Y : Type 0} (f : X → List Y) (x : X) (rest : List X) (old new all : List Y) → new ≡ old ++ f x → old ++ flat_map f (x ∷ rest) ≡ all → new ++ flat_map f rest ≡ all
picked_more f x rest old new all put left = ap (λ xs. xs ++ flat_map f rest) put ∙ append_assoc old (f x) (flat_map f rest) ∙ left

-- no element is left
pub picked_all : {X Y : Type 0} (f : X → List Y) (xs : List X) (out all : List Y) (i : ℕ) → length xs ≤ i → out ++ flat_map f (drop i xs) ≡ all → out ≡ all
picked_all f xs out all i over left = sym (append-nil out) ∙ ap (λ ys. out ++ ys) (sym (at_drop_all (flat_map f) xs i over)) ∙ left

-- one more id is tested
pub tested_more : (n i : ℕ) (ids : List ℕ) (said : ℕ → Option ℕ) (old mid new : Held ℕ) → i < length ids
    → ((key base : ℕ) → value_at mid key base ≡ cond (is_among key (take i ids) && nat_le n base) (said key) (value_at old key base))
    → ((key base : ℕ) → value_at new key base ≡ cond ((get_or ids i 0 == key) && nat_le n base) (said key) (value_at mid key base))
    → (key base : ℕ) → value_at new key base ≡ cond (is_among key (take (i + 1) ids) && nat_le n base) (said key) (value_at old key base)
tested_more n i ids said old mid new lt before put key base =
    put key base
    ∙ ap (λ x. cond ((get_or ids i 0 == key) && nat_le n base) (said key) x) (before key base)
    ∙ either (get_or ids i 0 == key) (is_among key (take i ids)) (nat_le n base) (said key) (value_at old key base)
    ∙ ap (λ b. cond (b && nat_le n base) (said key) (value_at old key base)) (sym (list_any_more (λ other. other == key) ids i 0 lt))
  where
    either : (here earlier late : Bool) (x y : Option ℕ) → cond (here && late) x (cond (earlier && late) x y) ≡ cond ((earlier || here) && late) x y
    either true true true x y = refl
    either true true false x y = refl
    either true false true x y = refl
    either true false false x y = refl
    either false true true x y = refl
    either false true false x y = refl
    either false false true x y = refl
    either false false false x y = refl

-- an id of the list is not a key that the list lacks
pub lacked_at : (ids : List ℕ) (i key : ℕ) → i < length ids → is_among key ids ≡ false → (get_or ids i 0 == key) ≡ false
lacked_at ids i key lt lacks = here (get_or ids i 0 == key) refl
  where
    here : (b : Bool) → (get_or ids i 0 == key) ≡ b → b ≡ false
    here true is = absurd (true≢false (sym (list_any_at (λ other. other == key) ids i 0 lt is) ∙ lacks))
    here false is = refl
