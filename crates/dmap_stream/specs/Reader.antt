-- A reader of tags, and what is known of the bytes that it was fed.
use Rattle.std.specs.Prelude.{◌≡◌, ◌≢◌, ℕ, ◌+◌, ◌<◌, ◌^◌, List, ◌∷◌, ◌++◌, length, take, true, if◌then◌else◌, Option, Some, None, Result, Ok, Err}
use Rattle.dmap_tags.specs.Codes.{Four}
use Rattle.dmap_tags.specs.declared.tree.Value.{Value}
use Rattle.code_table.specs.declared.row.CodeRow.{CodeRow}
use Rattle.dmap_stream.specs.declared.event.Event.{Event}
use Rattle.dmap_stream.specs.declared.event.Event.TheVariants.{Leaf}
use Rattle.dmap_stream.specs.declared.position.Position.{Position}
use Rattle.dmap_stream.specs.declared.refusal.StreamError.{StreamError}
use Rattle.dmap_stream.specs.declared.refusal.StreamError.TheVariants.{Truncated, Memory}
use Rattle.dmap_stream.specs.Walk.{Walk, Ending, between, inside, broken, ends, behind, walk_of}
use Rattle.dmap_stream.specs.Reading.{ready_at, resumed, is_due, is_between, bytes_kept, bytes_taken}

-- its table and limit, its position, and the error that stopped it
pub record Reader : Type 0 where
  pub rows : List CodeRow
  pub limit : ℕ
  pub position : Position
  pub error : Option StreamError

abbrev pub ready : Reader → List Event
ready r = ready_at r.position

-- how many of the fed bytes it took
abbrev pub taken : Reader → ℕ
taken r = bytes_taken r.position

-- what holds of a reader that no error has stopped
abbrev pub Goes : Position → Option StreamError → Type 0
Goes p error = error ≡ None → (is_due p ≡ true) × (bytes_taken p < 2 ^ 64)

-- how the bytes that were taken end, if nothing in them is broken
abbrev pub ending_at : Position → Ending
ending_at p = if is_between p then between else inside

-- whatever follows the bytes that were fed, the walk over all of it has the events that were returned, then those
-- that are ready, and then continues from the reader's position
abbrev pub ReadAs : List ℕ → List Event → Reader → Option StreamError → Type 0
ReadAs fed handed r None =
    (is_due r.position ≡ true) × (taken r ≡ length fed)
    × ((rest : List ℕ) → walk_of r.rows r.limit (fed ++ rest) ≡ behind (handed ++ ready r) (resumed r.rows r.limit r.position rest))
ReadAs fed handed r (Some e) =
    ((rest : List ℕ) → (later : Walk) × (walk_of r.rows r.limit (fed ++ rest) ≡ behind (handed ++ ready r) later))
    × (e ≢ Memory → (rest : List ℕ) → walk_of r.rows r.limit (fed ++ rest) ≡ behind (handed ++ ready r) (ends (broken e)))

-- the reader was fed these bytes and has returned these events
abbrev pub HasRead : List ℕ → List Event → Reader → Type 0
HasRead fed handed r = ReadAs fed handed r r.error

-- what a call of `feed` adds to the bytes that were fed
abbrev pub fed_with : List ℕ → List ℕ → Result ℕ StreamError → List ℕ
fed_with fed piece (Ok n) = fed ++ take n piece
fed_with fed piece (Err e) = fed ++ piece

-- what that means for the bytes themselves: the events returned and ready are all of their events, and no tag in them
-- is malformed; or the error is that of the first malformed tag; or, if an allocation failed, they are the first events
abbrev pub TellsAs : List ℕ → List Event → Reader → Option StreamError → Type 0
TellsAs fed handed r None = walk_of r.rows r.limit fed ≡ record { events = handed ++ ready r; ending = ending_at r.position }
TellsAs fed handed r (Some e) =
    ((later : List Event) × ((walk_of r.rows r.limit fed).events ≡ (handed ++ ready r) ++ later))
    × (e ≢ Memory → walk_of r.rows r.limit fed ≡ record { events = handed ++ ready r; ending = broken e })

abbrev pub Tells : List ℕ → List Event → Reader → Type 0
Tells fed handed r = TellsAs fed handed r r.error

-- how many bytes of a leaf's payload it keeps until the leaf is whole
abbrev pub kept : Reader → ℕ
kept r = bytes_kept r.position

-- the bytes end inside a leaf, after n bytes of its payload: with the others it is the next event
pub record EndInLeaf (rows : List CodeRow) (limit : ℕ) (fed : List ℕ) (events : List Event) (kept : ℕ) : Type 0 where
  pub at : ℕ
  pub code : Four
  pub len : ℕ
  pub since_head : at + 8 + kept ≡ length fed
  pub unfinished : kept < len
  pub awaited : (rest : List ℕ) → kept + length rest ≡ len
      → (value : Value) × ((later : List Event) × ((walk_of rows limit (fed ++ rest)).events ≡ events ++ Leaf code value at ∷ later))

-- what the end of the bytes returns
abbrev pub ended : Reader → Result (Unit {0}) StreamError
ended r =
    elim r.error [
      | None ↦ (if is_between r.position then Ok tt else Err (Truncated (taken r)))
      | Some e ↦ Err e
    ]
