-- Tags to which lines are still being added: the open lists, the innermost first, each with the members before it in
-- the list around it, and the members of the innermost so far.
use Rattle.std.specs.Prelude.{◌≡◌, ℕ, suc, List, [], ◌∷◌, ◌++◌, length, Bool, true, false, ◌||◌, nat_lt, nat_le, if◌then◌else◌, Option, Some, None}
use Rattle.dmap_tags.specs.Codes.{Four}
use Rattle.dmap_tags.specs.Tree.{Tree, leaf, list, trees_of, tree_code}
use Rattle.code_table.specs.declared.row.CodeRow.{CodeRow}
use Rattle.code_table.specs.Fits.{fits}
use Rattle.dmap_show.specs.Parts.{bare_line, head_of, IsHead}
use Rattle.dmap_show.specs.declared.draft.OpenList.{OpenList}

-- an open list as the last of the members around it
abbrev pub closed_in : OpenList → List Tree → List Tree
closed_in o here = o.before ++ list o.code (trees_of here) ∷ []

-- the tags once all lists are closed
abbrev pub closed : List OpenList → List Tree → List Tree
closed [] here = here
closed (o ∷ around) here = closed around (closed_in o here)

abbrev pub parent_in : List OpenList → Option Four
parent_in [] = None
parent_in (o ∷ around) = Some o.code

pub record State : Type 0 where
  pub around : List OpenList
  pub here : List Tree

-- with `level` lists left open
abbrev pub lowered : ℕ → List OpenList → List Tree → State
lowered level [] here = record { around = []; here = here }
lowered level (o ∷ around) here =
    if nat_lt level (suc (length around)) then lowered level around (closed_in o here)
    else record { around = o ∷ around; here = here }

abbrev pub is_group : Tree → Bool
is_group (leaf c l) = false
is_group (list c ts) = true

-- with one more tag: a list opens
abbrev pub with_tag : Tree → State → State
with_tag t s =
    if is_group t then record { around = record { code = tree_code t; before = s.here } ∷ s.around; here = [] }
    else record { around = s.around; here = s.here ++ t ∷ [] }

abbrev pub fitted : List CodeRow → Tree → State → Option State
fitted rows t s = if fits rows (parent_in s.around) t then Some (with_tag t s) else None

-- with the tag of a line of that level, unless no such tag may be there
abbrev pub taken : List CodeRow → ℕ → Tree → List OpenList → List Tree → Option State
taken rows level t around here =
    if nat_lt (length around) level || nat_le 32 level then None
    else fitted rows t (lowered level around here)

-- the line shows a tag without members, with which the draft becomes that
pub record Took (rows : List CodeRow) (around : List OpenList) (here : List Tree) (bare : List ℕ) (s : State) : Type 0 where
  pub level : ℕ
  pub t : Tree
  pub alone : head_of t ≡ t
  pub head : IsHead t
  pub line : bare ≡ bare_line level t
  pub taken : taken rows level t around here ≡ Some s
