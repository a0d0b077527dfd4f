-- What bytes of DMAP tags say, place by place. A place is an offset at which a tag's head is expected, with the
-- lists that are open around it, the innermost first. Nothing here depends on how the bytes come.
use Rattle.std.specs.Prelude.{ℕ, zero, suc, ◌+◌, List, [], ◌∷◌, ◌++◌, length, take, drop, Bool, true, false, ◌&&◌, ◌==◌, nat_lt, nat_le, if◌then◌else◌, Option, Some, None}
use Rattle.std.specs.Int.{from_be_bytes, w32}
use Rattle.dmap_tags.specs.Codes.{Four, code_of}
use Rattle.dmap_tags.specs.Kinds.{is_list}
use Rattle.dmap_tags.specs.Typed.{leaf_at, value_of}
use Rattle.dmap_tags.specs.declared.kinds.Kind.{Kind}
use Rattle.code_table.specs.declared.row.CodeRow.{CodeRow}
use Rattle.code_table.specs.Rows.{kind_in}
use Rattle.dmap_stream.specs.declared.containers.Container.{Container}
use Rattle.dmap_stream.specs.declared.event.Event.{Event}
use Rattle.dmap_stream.specs.declared.event.Event.TheVariants.{Open, Leaf, Close}
use Rattle.dmap_stream.specs.declared.refusal.StreamError.{StreamError}
use Rattle.dmap_stream.specs.declared.refusal.StreamError.TheVariants.{TooLarge, TooDeep, Overrun, ShortHead}

-- how bytes end: between two top tags, inside one, or broken at the first malformed tag
pub data Ending : Type 0 where
  between : Ending
  inside : Ending
  broken : StreamError → Ending

-- the events of bytes, in order, and how the bytes end
pub record Walk : Type 0 where
  pub events : List Event
  pub ending : Ending

abbrev pub ends : Ending → Walk
ends e = record { events = []; ending = e }

abbrev pub behind : List Event → Walk → Walk
behind es w = record { events = es ++ w.events; ending = w.ending }

abbrev pub is_empty : {A : Type 0} → List A → Bool
is_empty [] = true
is_empty (x ∷ xs) = false

-- the lists that end at a place are closed there, the inner before the outer
abbrev pub closes : ℕ → List Container → List Event
closes at [] = []
closes at (c ∷ around) = if c.end == at then Close c.code c.at ∷ closes at around else []

abbrev pub open_after : ℕ → List Container → List Container
open_after at [] = []
open_after at (c ∷ around) = if c.end == at then open_after at around else c ∷ around

abbrev pub first_of : {A : Type 0} → List A → Option A
first_of [] = None
first_of (x ∷ xs) = Some x

-- 1 to 7 bytes are left in the innermost list, too few for a head
abbrev pub is_short : ℕ → List Container → Bool
is_short at [] = false
is_short at (c ∷ around) = nat_lt at c.end && nat_lt c.end (at + 8)

abbrev pub parent_of : List Container → Option Four
parent_of [] = None
parent_of (c ∷ around) = Some c.code

-- a tag that ends there passes the end of the innermost list
abbrev pub passes : ℕ → List Container → Bool
passes end [] = false
passes end (c ∷ around) = nat_lt c.end end

-- the fault of a head: a top tag above the limit, a tag at level 33, or a tag that passes the end of its list
abbrev pub fault_at : ℕ → ℕ → List Container → Four → ℕ → Option StreamError
fault_at limit at around c len =
    if is_empty around && nat_lt limit len then Some (TooLarge at)
    else (if nat_le 32 (length around) then Some (TooDeep at)
    else (if passes (at + 8 + len) around then Some (Overrun at c) else None))

-- the length that a head states, after its code
abbrev pub told_length : List ℕ → ℕ
told_length head = from_be_bytes w32 (take 4 (drop 4 head))

-- what is said from a later place on: its offset, the lists that are open there, the bytes from there
abbrev pub Onward : Type 0
Onward = ℕ → List Container → List ℕ → Walk

-- a tag that is not a list has its event at its last byte
abbrev pub at_payload : Onward → ℕ → List Container → Four → Kind → ℕ → List ℕ → Walk
at_payload onward at around c kind len bytes =
    if nat_lt (length bytes) len then ends inside
    else behind (Leaf c (value_of (leaf_at kind (take len bytes))) at ∷ []) (onward (at + 8 + len) around (drop len bytes))

abbrev pub container : Four → ℕ → ℕ → Container
container c at len = record { code = c; at = at; end = at + 8 + len }

-- a list opens at its eighth head byte, and the next place is right after it, inside the list
abbrev pub at_body : Onward → ℕ → List Container → Four → Kind → ℕ → List ℕ → Walk
at_body onward at around c kind len bytes =
    if is_list kind then behind (Open c len at ∷ []) (onward (at + 8) (container c at len ∷ around) bytes)
    else at_payload onward at around c kind len bytes

abbrev pub unless_fault : Option StreamError → Walk → Walk
unless_fault None w = w
unless_fault (Some e) w = ends (broken e)

unfoldable pub behind_head : Onward → List CodeRow → ℕ → ℕ → List Container → Four → ℕ → List ℕ → Walk
behind_head onward rows limit at around c len bytes =
    unless_fault (fault_at limit at around c len) (at_body onward at around c (kind_in rows (parent_of around) c) len bytes)

-- a head has eight bytes; before them the bytes end between two tags only if no list is open
unfoldable pub at_head : Onward → List CodeRow → ℕ → ℕ → List Container → List ℕ → Walk
at_head onward rows limit at around bytes =
    if nat_lt (length bytes) 8 then ends (if is_empty around && is_empty bytes then between else inside)
    else behind_head onward rows limit at around (code_of bytes) (told_length bytes) (drop 8 bytes)

-- at a place the lists that end there are closed first; then a head is expected, if there is space for one
unfoldable pub at_place : Onward → List CodeRow → ℕ → ℕ → List Container → List ℕ → Walk
at_place onward rows limit at around bytes =
    behind (closes at around)
    (if is_short at (open_after at around) then ends (broken (ShortHead at)) else at_head onward rows limit at (open_after at around) bytes)

-- the first n places from a place on
unfoldable pub walk : List CodeRow → ℕ → ℕ → Onward
walk rows limit zero at around bytes = ends inside
walk rows limit (suc n) at around bytes = at_place (walk rows limit n) rows limit at around bytes

-- each place but the last takes a head's bytes, so there are no more places than bytes
unfoldable pub walk_from : List CodeRow → ℕ → Onward
walk_from rows limit at around bytes = walk rows limit (suc (length bytes)) at around bytes

-- the walk over whole bytes, with that maximum payload of a top tag
abbrev pub walk_of : List CodeRow → ℕ → List ℕ → Walk
walk_of rows limit bytes = walk_from rows limit 0 [] bytes
