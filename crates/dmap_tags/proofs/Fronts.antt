-- Lists of bytes that begin with others.
use Rattle.std.proofs.Common.{◌≡◌, ◌++◌, ℕ, List, [], ◌∷◌, take, length, refl, ap}
use Rattle.dmap_tags.specs.Begins.{Begins}

-- if a second list begins with a first and a third with the second, the third begins with the first
pub begins_more : (xs ys zs : List ℕ) → Begins xs ys → Begins ys zs → Begins xs zs
begins_more [] ys zs h k = refl
begins_more (x ∷ xs) [] zs h k = absurd (cc)
begins_more (x ∷ xs) (y ∷ ys) [] h k = absurd (cc)
begins_more (x ∷ xs) (y ∷ ys) (z ∷ zs) h k =
    let f : take (length xs) ys ≡ xs = cc in
    let g : take (length ys) zs ≡ ys = cc in
    let rest : take (length xs) zs ≡ xs = begins_more xs ys zs f g in
    cc

-- a list with something appended begins with the list
pub begins_append : (xs ys : List ℕ) → Begins xs (xs ++ ys)
begins_append [] ys = refl
begins_append (x ∷ xs) ys = ap (λ s. x ∷ s) (begins_append xs ys)
