-- Numbers in decimal digits, digit by digit.
use Rattle.std.proofs.Common.{◌≡◌, ◌≤◌, ◌<◌, ◌+◌, ◌-◌, ◌*◌, ◌^◌, ℕ, zero, suc, Bool, true, false, List, [], ◌∷◌, length, get_or, drop, if◌then◌else◌, Some, None, ◌==◌, nat_lt, refl, ap, sym, ◌∙◌, arith}
use Rattle.std.proofs.lemmas.List.{drop_all}
use Rattle.std.proofs.lemmas.Bool.{and_right, and_from, cond-true, lt-ltb, ltb-false, false≢true}
use Rattle.std.proofs.lemmas.Bool.Decides.{nat_tests}
use Rattle.song_query.specs.Holds.{are_digits, number_from, number_of}

-- more digits never make a number smaller
pub number_grows : (n : ℕ) (cs : List ℕ) → n ≤ number_from n cs
number_grows n [] = omega arith
number_grows n (c ∷ cs) = omega (arith, number_grows (n * 10 + (c - 48)) cs)

-- the number with the next digit
pub number_at : (n i : ℕ) (cs : List ℕ) → i < length cs → n * 10 + (get_or cs i 0 - 48) ≤ number_from n (drop i cs)
number_at n i [] h = absurd (omega arith)
number_at n zero (c ∷ cs) h = number_grows (n * 10 + (c - 48)) cs
number_at n (suc i) (c ∷ cs) h = number_at n i cs (omega arith)

-- a number that is too large has no value
pub too_large : (cs : List ℕ) → 2 ^ 64 ≤ number_from 0 cs → number_of cs ≡ None
too_large [] h = refl
too_large (c ∷ cs) h = grind (arith, nat_tests, and_right)

-- at the end, the number is that of all digits
pub all_digits : (n i : ℕ) (cs : List ℕ) → length cs ≤ i → false ≡ (length cs == 0) → n < 2 ^ 64 → are_digits (drop i cs) ≡ are_digits cs → number_from n (drop i cs) ≡ number_from 0 cs
    → Some n ≡ number_of cs
all_digits n i [] h e k d m = absurd (false≢true e)
all_digits n i (c ∷ cs) h e k d m =
    let none : drop i (c ∷ cs) ≡ [] = drop_all i (c ∷ cs) h in
    let digits : are_digits (c ∷ cs) ≡ true = sym d ∙ ap are_digits none in
    let number : number_from 0 (c ∷ cs) ≡ n = sym m ∙ ap (number_from n) none in
    let small : nat_lt (number_from 0 (c ∷ cs)) (2 ^ 64) ≡ true = lt-ltb _ _ (omega arith) in
    ap Some (sym number) ∙ sym (cond-true _ _ _ (and_from _ _ digits small))

no_more : (b : Bool) (n : ℕ) → None ≡ (if b then Some n else None) → b ≡ false
no_more true n e = absurd (cc)
no_more false n e = refl

-- a further digit may make the number too large
pub too_large_at : (n i : ℕ) (cs : List ℕ) (d : ℕ) → i < length cs → d ≡ get_or cs i 0 → None ≡ (if nat_lt (n * 10 + (d - 48)) (2 ^ 64) then Some (n * 10 + (d - 48)) else None) → number_from n (drop i cs) ≡ number_from 0 cs → None ≡ number_of cs
too_large_at n i cs d h e k m =
    let at = number_at n i cs h in
    let large : 2 ^ 64 ≤ n * 10 + (d - 48) = ltb-false _ _ (no_more _ _ k) in
    let same : d - 48 ≡ get_or cs i 0 - 48 = ap (λ x. x - 48) e in
    sym (too_large cs (omega arith))
