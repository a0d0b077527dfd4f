-- A parser that reads a text byte by byte: what it has read, and what may come next. Only proofs need it.
use Rattle.std.specs.Prelude.{ℕ, List, [], ◌∷◌, ◌++◌, Option, Some, None, Bool, true, false, ◌||◌, ◌&&◌, ◌==◌, if◌then◌else◌}
use Rattle.item_model.specs.Proper.{is_name_byte}
use Rattle.item_model.specs.QueryTree.{QueryTree, condition, and_of, or_of}
use Rattle.item_model.specs.declared.condition.Op.{Op}
use Rattle.item_model.specs.declared.condition.Op.TheVariants.{Is, IsNot, Less, More}
use Rattle.song_query.specs.Grammar.{joined, is_mark}
use Rattle.song_query.specs.declared.levels.Level.{Level}

-- the position of the next byte in a query: where a unit is expected, after a unit, after a unit and blanks, after an
-- opening quote, in a name, after the first of an operator's two characters, in a value, after a backslash in a value
pub data Place : Type 0 where
  due : Place
  close : Place
  apart : Place
  opened : Place
  named : List ℕ → Place
  begun : List ℕ → Op → Place
  valued : List ℕ → Op → List (List ℕ) → List ℕ → Place
  slashed : List ℕ → Op → List (List ℕ) → List ℕ → Place

pub record State : Type 0 where
  pub place : Place
  pub level : Level
  pub outer : List Level

abbrev pub empty_level : Level
empty_level = record { members = []; units = [] }

abbrev pub start : State
start = record { place = due; level = empty_level; outer = [] }

abbrev pub with_unit : QueryTree → Level → Level
with_unit q l = record { members = l.members; units = l.units ++ q ∷ [] }

abbrev pub with_member : Level → Level
with_member l = record { members = l.members ++ joined and_of l.units ∷ []; units = [] }

abbrev pub level_query : Level → QueryTree
level_query l = joined or_of (with_member l).members

abbrev pub here : Place → Level → List Level → State
here p l ls = record { place = p; level = l; outer = ls }

abbrev pub is_blank : ℕ → Bool
is_blank c = c == 32 || c == 43

-- a closing parenthesis
abbrev pub shut : Level → List Level → Option State
shut l [] = None
shut l (m ∷ ls) = Some (here close (with_unit (level_query l) m) ls)

-- a comma or a closing parenthesis
abbrev pub follow : Level → List Level → ℕ → Option State
follow l ls c = if c == 44 then Some (here due (with_member l) ls) else (if c == 41 then shut l ls else None)

-- a unit begins
abbrev pub begin : Level → List Level → ℕ → Option State → Option State
begin l ls c other =
    if c == 39 then Some (here opened l ls) else (if c == 40 then Some (here due empty_level (l ∷ ls)) else other)

abbrev pub cond_of : List ℕ → Op → List (List ℕ) → QueryTree
cond_of n o ps = condition (record { name = n; op = o; pattern = ps })

-- a character after a name
abbrev pub operate : List ℕ → Level → List Level → ℕ → Option State
operate n l ls c =
    if c == 58 then Some (here (valued n Is [] []) l ls)
    else (if c == 33 then Some (here (begun n IsNot) l ls)
    else (if c == 60 then Some (here (begun n Less) l ls)
    else (if c == 62 then Some (here (begun n More) l ls) else None)))

abbrev pub step : Place → Level → List Level → ℕ → Option State
step due l ls c = if is_blank c then Some (here due l ls) else begin l ls c None
step close l ls c = if is_blank c then Some (here apart l ls) else follow l ls c
step apart l ls c = if is_blank c then Some (here apart l ls) else begin l ls c (follow l ls c)
step opened l ls c = if is_name_byte c then Some (here (named (c ∷ [])) l ls) else None
step (named n) l ls c =
    if is_name_byte c then Some (here (named (n ++ c ∷ [])) l ls) else operate n l ls c
step (begun n o) l ls c = if c == 58 then Some (here (valued n o [] []) l ls) else None
step (valued n o ps p) l ls c =
    if c == 39 then Some (here close (with_unit (cond_of n o (ps ++ p ∷ [])) l) ls)
    else (if c == 92 then Some (here (slashed n o ps p) l ls)
    else (if c == 42 then Some (here (valued n o (ps ++ p ∷ []) []) l ls) else Some (here (valued n o ps (p ++ c ∷ [])) l ls)))
step (slashed n o ps p) l ls c =
    if is_mark c then Some (here (valued n o ps (p ++ c ∷ [])) l ls) else Some (here (valued n o ps (p ++ 92 ∷ c ∷ [])) l ls)

abbrev pub go : State → ℕ → Option State
go s c = step s.place s.level s.outer c

abbrev pub bind : Option State → (State → Option State) → Option State
bind None f = None
bind (Some s) f = f s

abbrev pub run : State → List ℕ → Option State
run s [] = Some s
run s (c ∷ cs) = bind (go s c) (λ t. run t cs)

-- a query may end after a unit and outside of parentheses
abbrev pub is_behind_unit : Place → Bool
is_behind_unit close = true
is_behind_unit apart = true
is_behind_unit due = false
is_behind_unit opened = false
is_behind_unit (named n) = false
is_behind_unit (begun n o) = false
is_behind_unit (valued n o ps p) = false
is_behind_unit (slashed n o ps p) = false

abbrev pub is_outside : List Level → Bool
is_outside [] = true
is_outside (l ∷ ls) = false

abbrev pub is_end : State → Bool
is_end s = is_behind_unit s.place && is_outside s.outer
