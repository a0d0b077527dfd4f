-- A reader of requests, and what it has read.
use Rattle.std.specs.Prelude.{◌≡◌, ◌≢◌, ◌≤◌, ◌<◌, ℕ, List, [], ◌++◌, length, take, option_to_list, IfSome, false, Option, Some, None, Result, Ok, Err}
use Rattle.http_heads.specs.declared.kind.Kind.TheVariants.{Request}
use Rattle.http_heads.specs.declared.refusal.HeadError.{HeadError}
use Rattle.http_heads.specs.declared.refusal.HeadError.TheVariants.{Memory}
use Rattle.http_heads.specs.Gathering.{Gathered, IsAt, IsIdle, is_whole, kept}
use Rattle.http_heads.specs.Messages.{Message, Refuses, print_message}
use Rattle.share_asks.specs.declared.ask.Ask.{Ask}
use Rattle.share_asks.specs.declared.ask.Role.{Role}
use Rattle.share_asks.specs.Valid.{IsValidWant}
use Rattle.http_front.specs.Asks.{Spells}
use Rattle.http_front.specs.Readable.{IsReadableWant}
use Rattle.http_front.specs.Readings.{Joins, IsReading, reading}
use Rattle.http_front.specs.Routes.{Rows, all_routes}

-- its role, the buffered bytes of the next request, the complete request that `next` returns, and the error that
-- stopped it
pub record Reader : Type 0 where
  pub role : Role
  pub kept : List ℕ
  pub ready : Option Ask
  pub error : Option HeadError

-- the buffered bytes are not a complete request; there are none if `ready` has a request or an error stopped the
-- reader
pub record Holds (rows : Rows) (g : Gathered) (ready : Option Ask) (error : Option HeadError) : Type 0 where
  pub routes : rows ≡ all_routes
  pub kind : g.kind ≡ Request
  pub at : IsAt g
  pub partial : is_whole g.phase ≡ false
  pub waits : ready ≢ None → kept g ≡ []
  pub stopped : error ≢ None → kept g ≡ []
  pub valid : IfSome ready (λ ask. IsValidWant ask.want)
  pub readable : IfSome ready (λ ask. IsReadableWant ask.want)

abbrev pub waiting : Reader → List Ask
waiting r = option_to_list r.ready

-- the bytes fed read as the requests returned, the one in `ready`, and the buffered bytes; or as the requests
-- returned and a rest that is refused, or at which allocation failed
abbrev pub ReadAs : List ℕ → List Ask → Reader → Option HeadError → Type 0
ReadAs fed handed r None = IsReading r.role fed (reading (handed ++ waiting r) r.kept None)
ReadAs fed handed r (Some e) =
    (rest : List ℕ) × Joins r.role fed handed rest × (r.ready ≡ None) × (e ≢ Memory → IsReading r.role fed (reading handed rest (Some e)))

-- the reader was fed these bytes and has returned these requests
abbrev pub HasRead : List ℕ → List Ask → Reader → Type 0
HasRead fed handed r = ReadAs fed handed r r.error

-- the bytes that a call of `feed` adds
abbrev pub fed_with : List ℕ → List ℕ → Result ℕ HeadError → List ℕ
fed_with fed piece (Ok n) = fed ++ take n piece
fed_with fed piece (Err e) = fed ++ piece

-- what `piece` makes of an incomplete request: it stays incomplete, and all of `piece` was taken; or it is complete,
-- and nothing is buffered; or it is refused
abbrev pub Gathers : Role → Gathered → List ℕ → Gathered → Result (ℕ × Option Ask) HeadError → Type 0
Gathers role old piece new (Ok (n, None)) =
    (n ≡ length piece) × (kept new ≡ kept old ++ piece) × IsAt new × (is_whole new.phase ≡ false) × (piece ≢ [] → 0 < n)
Gathers role old piece new (Ok (n, Some ask)) =
    (n ≤ length piece) × IsIdle new × (piece ≢ [] → 0 < n)
    × ((m : Message) × (kept old ++ take n piece ≡ print_message m) × Spells role m ask)
Gathers role old piece new (Err e) = e ≢ Memory → Refuses Request (kept old ++ piece) e
