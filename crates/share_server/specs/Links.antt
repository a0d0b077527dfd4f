-- A connection that was served to its end.
use Rattle.std.specs.Prelude.{◌≡◌, ◌⊎◌, ◌≢◌, ⊤, ℕ, List, [], length, true, false, IfSome, Option, Some, None}
use Rattle.std.specs.List.{list_any}
use Rattle.std.specs.Io.KnownBytes.{Appends}
use Rattle.item_model.specs.declared.changes.Entry.{Entry}
use Rattle.http_heads.specs.declared.refusal.HeadError.{HeadError}
use Rattle.share_asks.specs.declared.ask.Ask.{Ask}
use Rattle.share_asks.specs.declared.ask.Role.{Role}
use Rattle.share_history.specs.Sessions.{is_stopped}
use Rattle.http_front.specs.Readings.{IsReading, Joins, Reading}
use Rattle.reply_bytes.specs.ReplyBytes.{status_of}
use Rattle.share_server.specs.declared.report.Served.{Served}
use Rattle.share_server.specs.declared.report.LinkEnd.{LinkEnd}
use Rattle.share_server.specs.declared.report.LinkEnd.TheVariants.{Closed, Cut, Refused, Spent, Stopped, LinkFault, FileFault, Memory}
use Rattle.share_server.specs.Passes.{Pass}
use Rattle.share_server.specs.Losses.{Loses, ServesBut}
use Rattle.share_server.specs.Ends.{EndsInside, EndsAtEnd}

-- How a connection ends whose input has the reading `r`, in which no request closes.
abbrev pub EndsAs : Reading → ℕ → List Entry → List Ask → List Served → LinkEnd → Type 0
EndsAs r limit h asks served Closed = (r.asks ≡ asks) × (r.rest ≡ []) × (r.fault ≡ None)
EndsAs r limit h asks served (Cut at) = (r.asks ≡ asks) × (r.rest ≢ []) × (r.fault ≡ None)
EndsAs r limit h asks served (Refused status) = (r.asks ≡ asks) × ((error : HeadError) × (r.fault ≡ Some error) × (status ≡ status_of error))
EndsAs r limit h asks served Spent = length served ≡ limit
EndsAs r limit h asks served Stopped = is_stopped h ≡ true
EndsAs r limit h asks served LinkFault = ⊤
EndsAs r limit h asks served FileFault = ⊤
EndsAs r limit h asks served Memory = ⊤

-- If no request closes, the connection ends by its input, its limit, a stop or a failure.
abbrev pub Completes : Role → List ℕ → ℕ → List Entry → List Ask → List Served → LinkEnd → Type 0
Completes role input limit h asks served end =
    (r : Reading) → IsReading role input r → list_any (λ ask. ask.close) r.asks ≡ false → EndsAs r limit h asks served end

-- A connection and the handle that served it, before and after. The first requests of the input were served, in
-- order, the output is theirs, and `end` is how it ended. A lost edit is that of the next request.
pub record LinkEnded (role : Role) (limit : ℕ) (k k' : Pass) (left taken taken' : Option (List ℕ)) (served : List Served) (end : LinkEnd) : Type 0 where
  pub at_once : limit ≡ 0 → (served ≡ []) × (end ≡ Spent)
  pub input : List ℕ
  pub told : IfSome left (λ bytes. bytes ≡ input)
  pub asks : List Ask
  pub rest : List ℕ
  pub joins : Joins role input asks rest
  pub lost : List Entry
  pub serves : ServesBut k k' asks served lost
  pub loses : Loses role input asks k k' served lost end
  pub output : List ℕ
  pub written : Appends taken taken' output
  pub how : EndsInside role input k.settings limit k'.seen asks served rest output end
      ⊎ EndsAtEnd role input k.settings limit k'.seen asks served rest output end
  pub complete : Completes role input limit k'.seen asks served end
