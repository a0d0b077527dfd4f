-- Tags that fit a table and are not too deep, by the level and the list of each.
use Rattle.std.specs.Prelude.{◌≡◌, ◌<◌, ℕ, suc, List, true, Option, Some}
use Rattle.dmap_tags.specs.Codes.{Four}
use Rattle.dmap_tags.specs.Tree.{Tree, leaf, list, Trees, none, more}
use Rattle.dmap_tags.specs.Kinds.{is_list}
use Rattle.code_table.specs.declared.row.CodeRow.{CodeRow}
use Rattle.code_table.specs.Rows.{kind_in}
use Rattle.code_table.specs.Fits.{leaf_fits, fits}
use Rattle.dmap_show.specs.Readable.{IsCode, IsValue}
use Rattle.dmap_show.specs.Parts.{head_of, IsHead}

abbrev mutual
  pub Stands : List CodeRow → ℕ → Option Four → Tree → Type 0
  Stands rows level parent (leaf c l) = (level < 32) × ((IsCode c × IsValue l) × (leaf_fits (kind_in rows parent c) l ≡ true))
  Stands rows level parent (list c ts) = (level < 32) × (IsCode c × ((is_list (kind_in rows parent c) ≡ true) × AllStand rows (suc level) (Some c) ts))

  pub AllStand : List CodeRow → ℕ → Option Four → Trees → Type 0
  AllStand rows level parent none = Unit {0}
  AllStand rows level parent (more t ts) = Stands rows level parent t × AllStand rows level parent ts

-- what a line states of a tag at that level, inside that list
pub record HeadStands (rows : List CodeRow) (level : ℕ) (parent : Option Four) (t : Tree) : Type 0 where
  pub low : level < 32
  pub head : IsHead t
  pub fit : fits rows parent (head_of t) ≡ true
