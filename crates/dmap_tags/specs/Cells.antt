-- A tree as a list of cells, in which a list is its code, the cells of its members and an end. Equality of trees
-- is decided on their cells. Only the form in which trees are stored needs this, no contract cites it.
use Rattle.std.specs.Prelude.{◌≡◌, ℕ, ℤ, pos, List, [], ◌∷◌, ◌⊎◌, ◌==◌, if◌then◌else◌, refl}
use Rattle.std.proofs.Common.{inl, inr, ap, ◌∙◌}
use Rattle.std.specs.Coded.{Coded, code_by, coded×, coded⊎, coded_ℕ, coded_ℤ, coded_list}
use base.Stored.{coded_unit}
use Rattle.dmap_tags.specs.Codes.{Four, four_code}
use Rattle.dmap_tags.specs.Tree.{Leaf, U8, I8, U16, I16, U32, I32, U64, I64, Text, Date, Version, Opaque, Tree, leaf, list, Trees, none, more}

-- the number of the kind, the value of an unsigned kind, that of a signed kind, and that of a kind of bytes
abbrev pub Parts : Type 0
Parts = ℕ × (ℕ × (ℤ × List ℕ))

abbrev pub leaf_parts : Leaf → Parts
leaf_parts (U8 n) = (1, (n, (pos 0, [])))
leaf_parts (I8 z) = (2, (0, (z, [])))
leaf_parts (U16 n) = (3, (n, (pos 0, [])))
leaf_parts (I16 z) = (4, (0, (z, [])))
leaf_parts (U32 n) = (5, (n, (pos 0, [])))
leaf_parts (I32 z) = (6, (0, (z, [])))
leaf_parts (U64 n) = (7, (n, (pos 0, [])))
leaf_parts (I64 z) = (8, (0, (z, [])))
leaf_parts (Text bytes) = (9, (0, (pos 0, bytes)))
leaf_parts (Date n) = (10, (n, (pos 0, [])))
leaf_parts (Version n) = (11, (n, (pos 0, [])))
leaf_parts (Opaque bytes) = (0, (0, (pos 0, bytes)))

abbrev pub parts_leaf : Parts → Leaf
parts_leaf (kind, (n, (z, bytes))) =
    if kind == 1 then U8 n else if kind == 2 then I8 z else if kind == 3 then U16 n else if kind == 4 then I16 z
    else if kind == 5 then U32 n else if kind == 6 then I32 z else if kind == 7 then U64 n else if kind == 8 then I64 z
    else if kind == 9 then Text bytes else if kind == 10 then Date n else if kind == 11 then Version n else Opaque bytes

abbrev pub leaf_again : (l : Leaf) → parts_leaf (leaf_parts l) ≡ l
leaf_again (U8 n) = refl
leaf_again (I8 z) = refl
leaf_again (U16 n) = refl
leaf_again (I16 z) = refl
leaf_again (U32 n) = refl
leaf_again (I32 z) = refl
leaf_again (U64 n) = refl
leaf_again (I64 z) = refl
leaf_again (Text bytes) = refl
leaf_again (Date n) = refl
leaf_again (Version n) = refl
leaf_again (Opaque bytes) = refl

abbrev pub leaf_code : Coded Leaf
leaf_code = code_by Parts (coded× coded_ℕ (coded× coded_ℕ (coded× coded_ℤ (coded_list coded_ℕ)))) leaf_parts parts_leaf leaf_again

-- a leaf, the beginning of a list, or the end of one
abbrev pub Cell : Type 0
Cell = (Four × Leaf) ⊎ (Four ⊎ Unit {0})

abbrev mutual
  pub tree_cells : Tree → List Cell → List Cell
  tree_cells (leaf c l) rest = inl (c, l) ∷ rest
  tree_cells (list c ts) rest = inr (inl c) ∷ trees_cells ts (inr (inr tt) ∷ rest)

  pub trees_cells : Trees → List Cell → List Cell
  trees_cells none rest = rest
  trees_cells (more t ts) rest = tree_cells t (trees_cells ts rest)

-- the trees before the next end, and those of the lists around it
pub record Read : Type 0 where
  pub here : Trees
  pub around : List Trees

abbrev pub front : Tree → Read → Read
front t read = record { here = more t read.here; around = read.around }

abbrev pub fronts : Trees → Read → Read
fronts none read = read
fronts (more t ts) read = front t (fronts ts read)

-- the trees up to an end become a list with the code
abbrev pub closed : Four → Trees → List Trees → Read
closed c ts [] = record { here = more (list c ts) none; around = [] }
closed c ts (next ∷ around) = record { here = more (list c ts) next; around = around }

abbrev pub read_cells : List Cell → Read
read_cells [] = record { here = none; around = [] }
read_cells (inl (c, l) ∷ rest) = front (leaf c l) (read_cells rest)
read_cells (inr (inl c) ∷ rest) = closed c (read_cells rest).here (read_cells rest).around
read_cells (inr (inr _) ∷ rest) = record { here = none; around = (read_cells rest).here ∷ (read_cells rest).around }

abbrev pub here_fronts : (ts : Trees) (around : List Trees) → fronts ts (record { here = none; around = around }) ≡ record { here = ts; around = around }
here_fronts none around = refl
here_fronts (more t ts) around = ap (front t) (here_fronts ts around)

mutual
  pub tree_again : (t : Tree) (rest : List Cell) → read_cells (tree_cells t rest) ≡ front t (read_cells rest)
  tree_again (leaf c l) rest = refl
  tree_again (list c ts) rest =
      ap (λ read. closed c read.here read.around)
      (trees_again ts (inr (inr tt) ∷ rest) ∙ here_fronts ts ((read_cells rest).here ∷ (read_cells rest).around))

  pub trees_again : (ts : Trees) (rest : List Cell) → read_cells (trees_cells ts rest) ≡ fronts ts (read_cells rest)
  trees_again none rest = refl
  trees_again (more t ts) rest = tree_again t (trees_cells ts rest) ∙ ap (front t) (trees_again ts rest)

abbrev pub first_tree : Trees → Tree
first_tree none = leaf (0, 0, 0, 0) (Opaque [])
first_tree (more t ts) = t

pub cells_tree : (t : Tree) → first_tree (read_cells (tree_cells t [])).here ≡ t
cells_tree t = ap (λ read. first_tree read.here) (tree_again t [])

abbrev pub tree_coded : Coded Tree
tree_coded =
    code_by (List Cell) (coded_list (coded⊎ (coded× four_code leaf_code) (coded⊎ four_code coded_unit)))
    (λ t. tree_cells t []) (λ cells. first_tree (read_cells cells).here) cells_tree
