-- The parts between commas: how a walk finds them, and how many there are.
use Rattle.std.proofs.Common.{◌≡◌, ◌+◌, ◌<◌, ◌++◌, ℕ, Bool, true, false, ◌==◌, ◌||◌, not, nat_le, List, [], ◌∷◌, length, take, drop, get_or, cond, refl, ap, sym, ◌∙◌, arith, append-nil, drop-cons, add-one}
use Rattle.std.specs.List.{count_by, list_any}
use Rattle.std.proofs.lemmas.Bool.Decides.{nat_tests}
use Rattle.std.proofs.lemmas.List.Sums.{sum_by-cons}
use Rattle.item_model.specs.Limits.{names_limit}
use Rattle.item_model.specs.Names.{parts, onto}

onto_again : (c : ℕ) (xs : List (List ℕ)) → onto (c ∷ []) xs ≡ onto [] (onto (c ∷ []) xs)
onto_again c [] = refl
onto_again c (x ∷ xs) = refl

onto_nothing_step : (b : Bool) (c : ℕ) (xs : List (List ℕ)) → cond b ([] ∷ xs) (onto (c ∷ []) xs) ≡ onto [] (cond b ([] ∷ xs) (onto (c ∷ []) xs))
onto_nothing_step true c xs = refl
onto_nothing_step false c xs = onto_again c xs

-- nothing before the first part changes nothing
pub onto_nothing : (text : List ℕ) → parts text ≡ onto [] (parts text)
onto_nothing [] = refl
onto_nothing (c ∷ cs) = onto_nothing_step (c == 44) c (parts cs)

here_ends : (front : List ℕ) (xs : List (List ℕ)) → onto front ([] ∷ xs) ≡ front ∷ xs
here_ends front xs = ap (λ part. part ∷ xs) (append-nil front)

-- a comma ends the part before it
pub part_here : (text : List ℕ) (i : ℕ) → i < length text → get_or text i 0 ≡ 44 → onto (take i text) (parts (drop i text)) ≡ take i text ∷ parts (drop (i + 1) text)
part_here text i h k =
    rw (drop-cons text i 0 h, k) (here_ends (take i text) _ ∙ ap (λ n. take i text ∷ parts (drop n text)) (sym (add-one i)))

counted_step : (b : Bool) (c : ℕ) (xs : List (List ℕ)) (n : ℕ) → length xs ≡ n + 1 → length (cond b ([] ∷ xs) (onto (c ∷ []) xs)) ≡ (cond b 1 0 + n) + 1
counted_step true c xs n h = omega (arith, h)
counted_step false c [] n h = omega (arith, h)
counted_step false c (x ∷ xs) n h = omega (arith, h)

-- there is one part more than there are commas
pub parts_counted : (text : List ℕ) → length (parts text) ≡ count_by (λ c. c == 44) text + 1
parts_counted [] = refl
parts_counted (c ∷ cs) =
    rw (sum_by-cons (λ c. cond (c == 44) 1 0) c cs) (counted_step (c == 44) c (parts cs) _ (parts_counted cs))

above_limit : (n : ℕ) → nat_le 256 n ≡ not (nat_le (n + 1) 256)
above_limit n = grind (arith, nat_tests)

or_parts : (a b : Bool) → (a || b) ≡ false → (a ≡ false) × (b ≡ false)
or_parts true b h = absurd (cc)
or_parts false b h = (refl, h)

-- the test of the code, which counts commas
pub too_many_parts : (text : List ℕ) (n : ℕ) → n ≡ count_by (λ c. c == 44) text → nat_le names_limit n ≡ not (nat_le (length (parts text)) names_limit)
too_many_parts text n e = rw (parts_counted text, ← e) (above_limit n)

front_step : (b : Bool) (c : ℕ) (front : List ℕ) (xs : List (List ℕ)) → b ≡ false → cond b ([] ∷ onto front xs) (onto (c ∷ []) (onto front xs)) ≡ onto (c ∷ front) xs
front_step true c front xs h = absurd (cc)
front_step false c front [] h = refl
front_step false c front (x ∷ xs) h = refl

-- bytes without a comma are in the first part
pub part_front : (front rest : List ℕ) → list_any (λ c. c == 44) front ≡ false → parts (front ++ rest) ≡ onto front (parts rest)
part_front [] rest h = onto_nothing rest
part_front (c ∷ front) rest h =
    ap (λ xs. cond (c == 44) ([] ∷ xs) (onto (c ∷ []) xs)) (part_front front rest (or_parts _ _ h).1)
    ∙ front_step (c == 44) c front (parts rest) (or_parts _ _ h).0
