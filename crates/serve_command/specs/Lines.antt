-- The first line of a share that is served.
use Rattle.std.specs.Prelude.{ℕ, List, [], ◌∷◌, ◌++◌, codes, decimal}

-- the first line, once both addresses are open
abbrev pub serving_line : (name : List ℕ) → (revision : ℕ) → List ℕ
serving_line name revision = ((codes "serving " ++ name) ++ (codes " at revision " ++ decimal revision)) ++ 10 ∷ []
