-- The state of the parser, and the effect of one character. Only proofs need it.
use Rattle.std.specs.Prelude.{◌≡◌, ◌<◌, ⊤, ℕ, length, get_or, Option, Some, None, Result, Ok, Err, string_bytes}
use Rattle.std.specs.Char.{encode_utf8}
use Rattle.item_model.specs.declared.refusal.QueryError.{QueryError}
use Rattle.item_model.specs.declared.refusal.QueryError.TheVariants.{TooDeep, At, Memory as QueryMemory}
use Rattle.item_model.specs.declared.refusal.QueryWhy.TheVariants.{Byte as QueryByte}
use Rattle.song_query.specs.Machine.{Place, due, close, apart, opened, named, begun, valued, slashed, State, here, go, run}
use Rattle.song_query.specs.Limits.{open_parentheses}
use Rattle.song_query.specs.declared.parts.Partial.{Partial}
use Rattle.song_query.specs.declared.parts.Place.{Place as PlaceName}
use Rattle.song_query.specs.declared.parts.Place.TheVariants.{Due, Close, Apart, Opened, Named, Begun, Valued, Slashed}
use Rattle.song_query.specs.declared.parts.Refusal.{Refusal}
use Rattle.song_query.specs.declared.parts.Refusal.TheVariants.{Byte, Deep, Memory}
use Rattle.song_query.specs.declared.parts.Reader.{Reader}

abbrev pub place_at : PlaceName → Partial → Place
place_at Due p = due
place_at Close p = close
place_at Apart p = apart
place_at Opened p = opened
place_at Named p = named (string_bytes p.name)
place_at Begun p = begun (string_bytes p.name) p.op
place_at Valued p = valued (string_bytes p.name) p.op p.pieces (string_bytes p.piece)
place_at Slashed p = slashed (string_bytes p.name) p.op p.pieces (string_bytes p.piece)

abbrev pub state_of : Reader → State
state_of r = here (place_at r.place r.partial) r.level r.outer

-- the error for a refused character
abbrev pub refused_at : ℕ → Refusal → QueryError
refused_at place Byte = At place QueryByte
refused_at place Deep = TooDeep place
refused_at place Memory = QueryMemory

-- the new state is the one after the step; an error means that there is no step, or that it is too deep
abbrev pub Stepped : Option State → State → Result (Unit {0}) Refusal → Type 0
Stepped next new (Ok _) = next ≡ Some new
Stepped next new (Err Byte) = next ≡ None
Stepped next new (Err Deep) = (t : State) × (next ≡ Some t) × (open_parentheses < length t.outer)
Stepped next new (Err Memory) = ⊤

-- the same for the bytes of a character, of which the first is refused
abbrev pub Taken : State → ℕ → State → Result (Unit {0}) Refusal → Type 0
Taken old c new (Ok _) = run old (encode_utf8 c) ≡ Some new
Taken old c new (Err Byte) = go old (get_or (encode_utf8 c) 0 0) ≡ None
Taken old c new (Err Deep) = (t : State) × (go old (get_or (encode_utf8 c) 0 0) ≡ Some t) × (open_parentheses < length t.outer)
Taken old c new (Err Memory) = ⊤
