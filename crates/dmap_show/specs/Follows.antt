-- A draft that lines have led to.
use Rattle.std.specs.Prelude.{◌≡◌, ℕ, List, ◌++◌, None}
use Rattle.dmap_tags.specs.Tree.{Tree, trees_of}
use Rattle.code_table.specs.declared.row.CodeRow.{CodeRow}
use Rattle.dmap_show.specs.Shown.{shown_tags}
use Rattle.dmap_show.specs.declared.draft.OpenList.{OpenList}
use Rattle.dmap_show.specs.Drafts.{closed}
use Rattle.dmap_show.specs.Standing.{AllStand}
use Rattle.dmap_show.specs.Ahead.{DraftStands, Goes}

-- the lines show the draft's tags, which fit; and all tags whose text begins with these lines continue from it
pub record Follows (rows : List CodeRow) (lines : List ℕ) (around : List OpenList) (here : List Tree) : Type 0 where
  pub shown : lines ≡ shown_tags 0 (trees_of (closed around here))
  pub stands : DraftStands rows around here
  pub ahead : (us : List Tree) (z : List ℕ) → AllStand rows 0 None (trees_of us) → lines ++ z ≡ shown_tags 0 (trees_of us) → Goes rows around here us z
