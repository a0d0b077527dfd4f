-- The position of a reader: which events are ready, and what further bytes will say.
use Rattle.std.specs.Prelude.{◌≡◌, ◌≢◌, ℕ, ◌+◌, ◌<◌, ◌≤◌, List, [], ◌∷◌, ◌++◌, length, take, Bool, true, false, not, ◌&&◌, nat_lt, option_to_list, Option, IfSome, IfNone, Result, Ok, Err}
use Rattle.dmap_tags.specs.Kinds.{is_list}
use Rattle.code_table.specs.declared.row.CodeRow.{CodeRow}
use Rattle.dmap_stream.specs.declared.event.Event.{Event}
use Rattle.dmap_stream.specs.declared.position.Position.{Position}
use Rattle.dmap_stream.specs.declared.position.Phase.TheVariants.{Head, Payload}
use Rattle.dmap_stream.specs.declared.refusal.StreamError.{StreamError}
use Rattle.dmap_stream.specs.declared.refusal.StreamError.TheVariants.{Memory}
use Rattle.dmap_stream.specs.Walk.{Walk, broken, ends, behind, is_empty, closes, open_after, at_head, at_payload, walk_from}

-- the events that are ready: what led to the place, and then the lists that end there
abbrev pub ready_at : Position → List Event
ready_at p = option_to_list p.ready ++ closes p.start p.around

-- what is said after them if further bytes follow
abbrev pub resumed : List CodeRow → ℕ → Position → List ℕ → Walk
resumed rows limit p rest =
    elim p.phase [
      | Head ↦ at_head (walk_from rows limit) rows limit p.start (open_after p.start p.around) (p.part ++ rest)
      | Payload c kind len ↦ at_payload (walk_from rows limit) p.start (open_after p.start p.around) c kind len (p.part ++ rest)
    ]

-- what has come is a part of a head, or of a payload of a tag that is not a list
abbrev pub is_due : Position → Bool
is_due p =
    elim p.phase [ Head ↦ nat_lt (length p.part) 8 | Payload c kind len ↦ not (is_list kind) && nat_lt (length p.part) len ]

-- how many bytes were taken
abbrev pub bytes_taken : Position → ℕ
bytes_taken p = elim p.phase [ Head ↦ p.start + length p.part | Payload c kind len ↦ p.start + 8 + length p.part ]

-- how many bytes of a leaf's payload are kept until it is whole
abbrev pub bytes_kept : Position → ℕ
bytes_kept p = elim p.phase [ Head ↦ 0 | Payload c kind len ↦ length p.part ]

-- no tag has begun that is not whole
abbrev pub is_between : Position → Bool
is_between p =
    elim p.phase [ Head ↦ is_empty (open_after p.start p.around) && is_empty p.part | Payload c kind len ↦ false ]

-- an event comes next, and then what the new position continues with; or the fault of the bytes
abbrev pub Moves : List CodeRow → ℕ → (List ℕ → Walk) → Position → Result (Unit {0}) StreamError → Type 0
Moves rows limit before new (Ok _) =
    (is_due new ≡ true) × (ready_at new ≢ []) × ((rest : List ℕ) → before rest ≡ behind (ready_at new) (resumed rows limit new rest))
Moves rows limit before new (Err e) =
    (e ≡ Memory → ready_at new ≡ []) × (e ≢ Memory → (rest : List ℕ) → before rest ≡ behind (ready_at new) (ends (broken e)))

-- the first of these bytes, fewer than n, make no event ready
abbrev pub AreQuiet : (List ℕ → Walk) → List ℕ → ℕ → Type 0
AreQuiet before piece n = (m : ℕ) → m < n → (before (take m piece)).events ≡ []

-- the same, for a call that takes bytes from the beginning of a chunk until an event is ready, and none after it
abbrev pub Takes : List CodeRow → ℕ → (List ℕ → Walk) → List ℕ → Position → Result ℕ StreamError → Type 0
Takes rows limit before piece new (Ok n) =
    (n ≤ length piece) × (n < length piece → ready_at new ≢ []) × (is_due new ≡ true)
    × ((rest : List ℕ) → before (take n piece ++ rest) ≡ behind (ready_at new) (resumed rows limit new rest))
    × AreQuiet before piece n
Takes rows limit before piece new (Err e) =
    (e ≡ Memory → ready_at new ≡ []) × (e ≢ Memory → (rest : List ℕ) → before (piece ++ rest) ≡ behind (ready_at new) (ends (broken e)))

-- the next event that was ready is returned, or there was none; what further bytes will say is as before
pub record HandsOut (old new : Position) (event : Option Event) : Type 0 where
  pub none : IfNone event ((ready_at old ≡ []) × (new ≡ old))
  pub some : IfSome event (λ e. ready_at old ≡ e ∷ ready_at new)
  pub rest : (rows : List CodeRow) (limit : ℕ) (rest : List ℕ) → resumed rows limit new rest ≡ resumed rows limit old rest
  pub due : is_due new ≡ is_due old
  pub taken : bytes_taken new ≡ bytes_taken old
