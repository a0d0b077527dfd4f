-- What holds at each index of two lists.
use Rattle.std.proofs.Common.{◌≡◌, ℕ, suc, ◌<◌, List, [], ◌∷◌, length, get_or, subst, arith}
use Rattle.std.specs.List.{AllZip}

-- two values like these are so
abbrev pub LikeSome : {A : Type 0} → (A → A → Type 0) → A → A → Type 0
LikeSome {A} R x y = (x' : A) × (y' : A) × (x' ≡ x) × (y' ≡ y) × R x' y'

at : {A : Type 0} (R : A → A → Type 0) (x y : A) → LikeSome R x y → R x y
at R x y like = subst (λ z. R z y) like.2 (subst (λ z. R like.0 z) like.3 like.4)

pub zipped : {A : Type 0} (R : A → A → Type 0) (xs ys : List A) → length ys ≡ length xs → ((k : ℕ) (d : A) → k < length xs → LikeSome R (get_or xs k d) (get_or ys k d)) → AllZip R xs ys
zipped R [] [] same each = tt
zipped R [] (y ∷ ys) same each = absurd (omega arith)
zipped R (x ∷ xs) [] same each = absurd (omega arith)
zipped R (x ∷ xs) (y ∷ ys) same each = (at R x y (each 0 x (omega arith)), zipped R xs ys (omega arith) (λ k d less. each (suc k) d (omega arith)))
