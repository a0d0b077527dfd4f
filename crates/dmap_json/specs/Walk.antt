-- How the values in a JSON value are read one after another.
use Rattle.std.specs.Prelude.{◌≡◌, ◌≤◌, ◌+◌, ℕ, List, true, Option}
use Rattle.serde_json.specs.Data.{Data, array, Items}
use Rattle.serde_json.specs.View.{items_view}
use Rattle.dmap_tags.specs.Codes.{Four}
use Rattle.dmap_tags.specs.Tree.{Leaf, Tree, Trees, levels, levels_in}
use Rattle.dmap_tags.specs.Seen.{tree_with}
use Rattle.dmap_tags.specs.Typed.{value_of}
use Rattle.dmap_tags.specs.declared.kinds.Kind.{Kind}
use Rattle.code_table.specs.declared.row.CodeRow.{CodeRow}
use Rattle.code_table.specs.Fits.{fits, all_fit}
use Rattle.dmap_show.specs.Readable.{IsTag, AreTags}
use Rattle.dmap_json.specs.TagObject.{json_of, json_items}
use Rattle.dmap_json.specs.Places.{Place, IsLeafObject, IsListObject, IsFirstFault}
use Rattle.dmap_json.specs.Parts.{IsValueOf}
use Rattle.dmap_json.specs.declared.error.JsonError.{JsonError}
use Rattle.dmap_json.specs.declared.error.JsonError.TheVariants.{Unfit, Syntax, Shape, Memory}
use Rattle.dmap_json.specs.declared.head.Head.{Head}
use Rattle.dmap_json.specs.declared.head.Held.{Held}
use Rattle.dmap_json.specs.declared.head.Held.TheVariants as held

-- the parts of an object, without a list's members
abbrev pub IsHeld : List CodeRow → Option Four → Data → Four → Held → Type 0
IsHeld rows parent d c (held.Leaf v) = (l : Leaf) × ((v ≡ value_of l) × IsLeafObject rows parent d c l)
IsHeld rows parent d c (held.List items) = IsListObject rows parent d c (items_view items.now)

abbrev pub IsHead : List CodeRow → Option Four → Data → Head → Type 0
IsHead rows parent d head = IsHeld rows parent d head.code head.held

-- the value, at that level, is the tag's
pub record IsRead (rows : List CodeRow) (parent : Option Four) (level : ℕ) (d : Data) (t : Tree) : Type 0 where
  pub object : d ≡ json_of t
  pub tag : IsTag t
  pub fits : fits rows parent t ≡ true
  pub shallow : level + levels t ≤ 33

pub record AreRead (rows : List CodeRow) (parent : Four) (level : ℕ) (ds : Items) (ts : Trees) : Type 0 where
  pub objects : ds ≡ json_items ts
  pub tags : AreTags ts
  pub fit : all_fit rows parent ts ≡ true
  pub shallow : level + levels_in ts ≤ 33

-- reading stops at one of these places, whose indices begin at `start`
abbrev pub Stops : List CodeRow → ℕ → List Place → JsonError → Type 0
Stops rows start ps Unfit = ⊥
Stops rows start ps Syntax = ⊥
Stops rows start ps (Shape index) = (k : ℕ) × (index ≡ start + k) × IsFirstFault rows ps k
Stops rows start ps Memory = Unit {0}

-- the parts of a list's object, by its value
abbrev pub IsListHeld : Data → Held → Type 0
IsListHeld d (held.List items) = d ≡ array (items_view items.now)
IsListHeld d (held.Leaf v) = ⊥

abbrev pub IsListHead : Four → Data → Head → Type 0
IsListHead c d head = (head.code ≡ c) × IsListHeld d head.held

-- the parts of another object, by its value
abbrev pub IsLeafHeld : List CodeRow → Option Four → Four → Kind → Data → Held → Type 0
IsLeafHeld rows parent c kind d (held.Leaf v) = IsValueOf kind d v × (fits rows parent (tree_with c v) ≡ true)
IsLeafHeld rows parent c kind d (held.List items) = ⊥

abbrev pub IsLeafHead : List CodeRow → Option Four → Four → Kind → Data → Head → Type 0
IsLeafHead rows parent c kind d head = (head.code ≡ c) × IsLeafHeld rows parent c kind d head.held

-- the value is not a tag's object
pub record HasNoObject (rows : List CodeRow) (parent : Option Four) (d : Data) : Type 0 where
  pub no_leaf : (c : Four) (l : Leaf) → IsLeafObject rows parent d c l → ⊥
  pub no_list : (c : Four) (ds : Items) → IsListObject rows parent d c ds → ⊥
