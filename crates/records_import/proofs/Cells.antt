-- A cell by its index.
use Rattle.std.proofs.Common.{◌≡◌, ◌∷◌, [], ℕ, zero, suc, List, Some, None, refl, get_or}
use Rattle.csv.specs.Records.{field_at}

-- the field at an index is the cell there
pub cell_there : (cells : List (List ℕ)) (i : ℕ) (bytes : List ℕ) → Some bytes ≡ field_at cells i → bytes ≡ get_or cells i []
unfolding field_at
cell_there [] i bytes h = absurd (cc h)
cell_there (c ∷ cs) zero bytes h = cc h
cell_there (c ∷ cs) (suc i) bytes h = cell_there cs i bytes h

-- if there is none, the cell is empty
pub cell_missing : (cells : List (List ℕ)) (i : ℕ) → None ≡ field_at cells i → ◌≡◌ {A = List ℕ} [] (get_or cells i [])
unfolding field_at
cell_missing [] i h = refl
cell_missing (c ∷ cs) zero h = absurd (cc h)
cell_missing (c ∷ cs) (suc i) h = cell_missing cs i h
