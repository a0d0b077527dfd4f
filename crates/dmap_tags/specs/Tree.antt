-- A tag as contracts see it: a content code with one value, or with a list of further tags.
use Rattle.std.specs.Prelude.{ℕ, ℤ, List, [], ◌∷◌, ◌+◌, suc, max}
use Rattle.dmap_tags.specs.Codes.{Four}

-- the value of a tag that is not a list
pub data Leaf : Type 0 where
  U8 : (n : ℕ) → Leaf
  I8 : (z : ℤ) → Leaf
  U16 : (n : ℕ) → Leaf
  I16 : (z : ℤ) → Leaf
  U32 : (n : ℕ) → Leaf
  I32 : (z : ℤ) → Leaf
  U64 : (n : ℕ) → Leaf
  I64 : (z : ℤ) → Leaf
  Text : (bytes : List ℕ) → Leaf
  Date : (n : ℕ) → Leaf
  Version : (n : ℕ) → Leaf
  Opaque : (bytes : List ℕ) → Leaf

mutual
  pub data Tree : Type 0 where
    leaf : Four → Leaf → Tree
    list : Four → Trees → Tree

  pub data Trees : Type 0 where
    none : Trees
    more : Tree → Trees → Trees

abbrev pub trees_of : List Tree → Trees
trees_of [] = none
trees_of (t ∷ ts) = more t (trees_of ts)

abbrev pub tree_list : Trees → List Tree
tree_list none = []
tree_list (more t ts) = t ∷ tree_list ts

-- the content code that a tag begins with
abbrev pub tree_code : Tree → Four
tree_code (leaf c l) = c
tree_code (list c ts) = c

-- a size for recursion: a tag is larger than its contents
abbrev mutual
  pub size_of : Tree → ℕ
  size_of (leaf c l) = 1
  size_of (list c ts) = suc (suc (sizes_of ts))

  pub sizes_of : Trees → ℕ
  sizes_of none = 0
  sizes_of (more t ts) = suc (size_of t + sizes_of ts)

-- how many levels of tags there are; a leaf has one
abbrev mutual
  pub levels : Tree → ℕ
  levels (leaf c l) = 1
  levels (list c ts) = suc (levels_in ts)

  pub levels_in : Trees → ℕ
  levels_in none = 0
  levels_in (more t ts) = max (levels t) (levels_in ts)
