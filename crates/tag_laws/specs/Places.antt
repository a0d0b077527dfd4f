-- The places of bytes of tags, found only by the lengths in their heads. A place is an offset at which a tag's head is
-- expected, with the lists that are open there, the innermost first. No open list ends there. A tag may be malformed.
use Rattle.std.specs.Prelude.{◌≡◌, ◌≢◌, ◌⊎◌, ◌+◌, ◌≤◌, ℕ, List, [], ◌∷◌, ◌++◌, length, drop, true, false}
use Rattle.std.specs.List.{AllByRecursion}
use Rattle.dmap_tags.specs.Codes.{Four, code_of}
use Rattle.dmap_tags.specs.Kinds.{is_list}
use Rattle.dmap_tags.specs.declared.kinds.Kind.{Kind}
use Rattle.code_table.specs.declared.row.CodeRow.{CodeRow}
use Rattle.code_table.specs.Rows.{kind_in}
use Rattle.dmap_stream.specs.declared.containers.Container.{Container}
use Rattle.dmap_stream.specs.Walk.{parent_of, told_length, container}

pub record Place : Type 0 where
  pub at : ℕ
  pub around : List Container

abbrev pub place : ℕ → List Container → Place
place at around = record { at = at; around = around }

-- the first place of all bytes: offset 0, with no open list
abbrev pub start : Place
start = place 0 []

-- what the head there states: the code, the length of the payload, and the kind of the code in the list around
abbrev pub code_at : List ℕ → Place → Four
code_at bytes p = code_of (drop p.at bytes)

abbrev pub length_at : List ℕ → Place → ℕ
length_at bytes p = told_length (drop p.at bytes)

abbrev pub kind_at : List CodeRow → List ℕ → Place → Kind
kind_at rows bytes p = kind_in rows (parent_of p.around) (code_at bytes p)

-- the innermost list has 8 bytes left for a head
abbrev pub HasRoom : ℕ → List Container → Type 0
HasRoom at [] = Unit {0}
HasRoom at (c ∷ around) = at + 8 ≤ c.end

-- the eight bytes of a head are there, in the innermost list
pub record HasHead (bytes : List ℕ) (p : Place) : Type 0 where
  pub whole : p.at + 8 ≤ length bytes
  pub room : HasRoom p.at p.around

-- the innermost list does not end there
abbrev pub IsOpen : ℕ → List Container → Type 0
IsOpen at [] = Unit {0}
IsOpen at (c ∷ around) = c.end ≢ at

-- the lists that remain open at an offset: of the lists around it, the innermost that end there are closed
pub record Remain (at : ℕ) (around left : List Container) : Type 0 where
  pub closed : List Container
  pub parts : around ≡ closed ++ left
  pub ended : AllByRecursion (λ (c : Container). c.end ≡ at) closed
  pub kept : IsOpen at left

-- after the head of a list the next place is the list's first byte, which is its end if it is empty
pub record EntersList (rows : List CodeRow) (bytes : List ℕ) (p q : Place) : Type 0 where
  pub head : HasHead bytes p
  pub list : is_list (kind_at rows bytes p) ≡ true
  pub next : q.at ≡ p.at + 8
  pub left : Remain q.at (container (code_at bytes p) p.at (length_at bytes p) ∷ p.around) q.around

-- after any other tag whose payload is whole it is the tag's end
pub record PassesValue (rows : List CodeRow) (bytes : List ℕ) (p q : Place) : Type 0 where
  pub head : HasHead bytes p
  pub value : is_list (kind_at rows bytes p) ≡ false
  pub whole : p.at + 8 + length_at bytes p ≤ length bytes
  pub next : q.at ≡ p.at + 8 + length_at bytes p
  pub left : Remain q.at p.around q.around

abbrev pub Next : List CodeRow → List ℕ → Place → Place → Type 0
Next rows bytes p q = EntersList rows bytes p q ⊎ PassesValue rows bytes p q

-- each of these places is the next after the one before, from the first to the last
abbrev pub Leads : List CodeRow → List ℕ → Place → List Place → Place → Type 0
Leads rows bytes p [] q = p ≡ q
Leads rows bytes p (r ∷ way) q = Next rows bytes p r × Leads rows bytes r way q

-- a place of the bytes: places lead there from offset 0
abbrev pub IsPlace : List CodeRow → List ℕ → Place → Type 0
IsPlace rows bytes q = (way : List Place) × Leads rows bytes start way q
