-- Which texts are read: those of tags that fit a table and have at most 32 levels.
use Rattle.std.specs.Prelude.{◌≡◌, ◌<◌, ◌≤◌, ℕ, List, true, None}
use Rattle.std.specs.List.{AllByRecursion}
use Rattle.dmap_tags.specs.Codes.{Four}
use Rattle.dmap_tags.specs.Tree.{Leaf, Opaque, Tree, leaf, list, Trees, none, more, trees_of, levels}
use Rattle.dmap_tags.specs.Proper.{IsProper}
use Rattle.code_table.specs.declared.row.CodeRow.{CodeRow}
use Rattle.code_table.specs.Fits.{fits}
use Rattle.dmap_show.specs.Shown.{shown_tags}

abbrev pub AreBytes : List ℕ → Type 0
AreBytes bytes = AllByRecursion (λ b. b < 256) bytes

abbrev pub IsCode : Four → Type 0
IsCode c = (c.0 < 256) × ((c.1 < 256) × ((c.2 < 256) × (c.3 < 256)))

-- a value in the range of its kind, and bytes
abbrev pub IsValue : Leaf → Type 0
IsValue (Opaque bytes) = AreBytes bytes
IsValue l = IsProper l

-- a tag that is not a list has a value in range
abbrev pub HasValue : Tree → Type 0
HasValue (leaf c l) = IsValue l
HasValue (list c ts) = Unit {0}

-- a tag that can be encoded: its codes are bytes and its values in range
abbrev mutual
  pub IsTag : Tree → Type 0
  IsTag (leaf c l) = IsCode c × IsValue l
  IsTag (list c ts) = IsCode c × AreTags ts

  pub AreTags : Trees → Type 0
  AreTags none = Unit {0}
  AreTags (more t ts) = IsTag t × AreTags ts

-- a tag that can be encoded and that, at the top, fits the table and is not too deep
pub record IsReadable (rows : List CodeRow) (t : Tree) : Type 0 where
  pub tag : IsTag t
  pub fits : fits rows None t ≡ true
  pub shallow : levels t ≤ 32

-- tags that each fit the table at the top and are not too deep
abbrev pub AreShallow : List CodeRow → List Tree → Type 0
AreShallow rows ts = AllByRecursion (λ t. (fits rows None t ≡ true) × (levels t ≤ 32)) ts

-- the text shows these tags
pub record Shows (rows : List CodeRow) (text : List ℕ) (ts : List Tree) : Type 0 where
  pub lines : text ≡ shown_tags 0 (trees_of ts)
  pub each : AllByRecursion (λ t. IsReadable rows t) ts
