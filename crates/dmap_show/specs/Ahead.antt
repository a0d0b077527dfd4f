-- What may still come in the lists of a draft.
use Rattle.std.specs.Prelude.{◌≡◌, ◌<◌, ℕ, suc, length, List, [], ◌∷◌, ◌++◌, true, None, Some}
use Rattle.dmap_tags.specs.Tree.{Tree, list, trees_of}
use Rattle.dmap_tags.specs.Kinds.{is_list}
use Rattle.code_table.specs.declared.row.CodeRow.{CodeRow}
use Rattle.code_table.specs.Rows.{kind_in}
use Rattle.dmap_show.specs.declared.draft.OpenList.{OpenList}
use Rattle.dmap_show.specs.Shown.{shown_tags}
use Rattle.dmap_show.specs.Drafts.{parent_in}
use Rattle.dmap_show.specs.Readable.{IsCode}
use Rattle.dmap_show.specs.Standing.{AllStand}

-- the open lists and the members before them fit
abbrev pub OpenStand : List CodeRow → List OpenList → Type 0
OpenStand rows [] = Unit {0}
OpenStand rows (o ∷ around) =
    AllStand rows (length around) (parent_in around) (trees_of o.before)
    × ((length around < 32) × (IsCode o.code × ((is_list (kind_in rows (parent_in around) o.code) ≡ true) × OpenStand rows around)))

abbrev pub DraftStands : List CodeRow → List OpenList → List Tree → Type 0
DraftStands rows around here = AllStand rows (length around) (parent_in around) (trees_of here) × OpenStand rows around

-- of what comes ahead in the lists around, the part of the innermost list
abbrev pub first_of : List (List Tree) → List Tree
first_of [] = []
first_of (m ∷ ms) = m

-- and the parts of the others
abbrev pub others_of : List (List Tree) → List (List Tree)
others_of [] = []
others_of (m ∷ ms) = ms

-- the tags, with those that come ahead in each list around
abbrev pub whole : List OpenList → List Tree → List (List Tree) → List Tree
whole [] all ms = all
whole (o ∷ around) all ms = whole around (o.before ++ list o.code (trees_of all) ∷ first_of ms) (others_of ms)

abbrev pub ahead_lines : List OpenList → List Tree → List (List Tree) → List ℕ
ahead_lines [] m ms = shown_tags 0 (trees_of m)
ahead_lines (o ∷ around) m ms = shown_tags (suc (length around)) (trees_of m) ++ ahead_lines around (first_of ms) (others_of ms)

abbrev pub AheadStands : List CodeRow → List OpenList → List Tree → List (List Tree) → Type 0
AheadStands rows [] m ms = AllStand rows 0 None (trees_of m)
AheadStands rows (o ∷ around) m ms = AllStand rows (suc (length around)) (Some o.code) (trees_of m) × AheadStands rows around (first_of ms) (others_of ms)

-- the tags us continue with the text z after these lines
pub record Goes (rows : List CodeRow) (around : List OpenList) (here us : List Tree) (z : List ℕ) : Type 0 where
  pub m : List Tree
  pub ms : List (List Tree)
  pub stands : AheadStands rows around m ms
  pub all : us ≡ whole around (here ++ m) ms
  pub left : z ≡ ahead_lines around m ms
