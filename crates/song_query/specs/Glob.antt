-- When a pattern matches a text: the characters of the folded text are those of the folded parts in order, with any
-- characters between each two.
use Rattle.std.specs.Prelude.{◌≡◌, ◌++◌, ℕ, List, [], ◌∷◌, map, length, take, drop, Bool, false, ◌&&◌, ◌||◌}
use Rattle.std.specs.Str.{bytes_eq}
use Rattle.item_model.specs.Folding.{folded, folded_chars}

-- the text is the parts, with a run of any characters between each two
abbrev pub Joins : List (List ℕ) → List ℕ → Type 0
Joins [] text = ⊥
Joins (p ∷ []) text = text ≡ p
Joins (p ∷ q ∷ ps) text = (run : List ℕ) × (rest : List ℕ) × (text ≡ p ++ (run ++ rest)) × Joins (q ∷ ps) rest

abbrev pub Glob : List (List ℕ) → List ℕ → Type 0
Glob pieces text = Joins (map folded_chars pieces) (folded_chars text)

-- a test holds for some rest of the text
abbrev pub from_some : (List ℕ → Bool) → List ℕ → Bool
from_some test [] = test []
from_some test (c ∷ cs) = test (c ∷ cs) || from_some test cs

-- the same as a test: after each part but the last, the other parts are joined in some rest of the text
abbrev pub joins : List (List ℕ) → List ℕ → Bool
joins [] text = false
joins (p ∷ []) text = bytes_eq text p
joins (p ∷ q ∷ ps) text = bytes_eq (take (length p) text) p && from_some (λ rest. joins (q ∷ ps) rest) (drop (length p) text)

-- the test is applied to the bytes of the folded texts
abbrev pub glob : List (List ℕ) → List ℕ → Bool
glob pieces text = joins (map folded pieces) (folded text)
