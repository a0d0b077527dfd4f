-- What adding a frame may leave: the closing byte with anything after it, or any byte there with the whole frame after it.
use Rattle.std.specs.Prelude.{◌≡◌, ◌⊎◌, ℕ, List, ◌∷◌, ◌++◌}

abbrev pub IsClosedOrFramed : List ℕ → ℕ → List ℕ → List ℕ → Type 0
IsClosedOrFramed front shut frame image =
    ((behind : List ℕ) × (image ≡ front ++ shut ∷ behind)) ⊎ ((byte : ℕ) × (image ≡ front ++ byte ∷ frame))
