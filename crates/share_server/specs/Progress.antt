-- How far a connection has been served: what its handle has seen, what was written, and what was read. These are relations
-- of values; the words of clauses are in `Steps`.
use Rattle.std.specs.Prelude.{◌≡◌, ◌≢◌, ℕ, ◌-◌, ◌^◌, ◌<◌, min, List, [], ◌∷◌, ◌++◌, length, take, Option, Some, None, Result, Ok, Err}
use Rattle.std.specs.Io.KnownBytes.{Appends, Consumes}
use Rattle.item_model.specs.declared.changes.Entry.{Entry}
use Rattle.share_asks.specs.declared.ask.Ask.{Ask}
use Rattle.share_asks.specs.declared.ask.Role.{Role}
use Rattle.http_front.specs.Readers.{HasRead, Reader}
use Rattle.http_front.specs.Readings.{Joins}
use Rattle.share_server.specs.declared.report.Served.{Served}
use Rattle.share_server.specs.declared.report.LinkEnd.{LinkEnd}
use Rattle.share_server.specs.declared.report.LinkEnd.TheVariants.{Closed, Cut}
use Rattle.share_server.specs.Replies.{GoOn, replies}
use Rattle.share_server.specs.Passes.{Pass, Serves}
use Rattle.share_server.specs.Ends.{EndsInside}
use Rattle.share_server.specs.Losses.{Loses, ServesBut}
use Rattle.share_server.specs.Links.{LinkEnded}

-- These requests were served, all replies are written, and the connection stays open.
pub record RequestsServed (limit : ℕ) (k k' : Pass) (taken taken' : Option (List ℕ)) (asks : List Ask) (served : List Served) : Type 0 where
  pub serves : Serves k k' asks served
  pub goes_on : GoOn limit k'.seen 1 asks served
  pub written : Appends taken taken' (replies k.settings limit k'.seen asks served)

-- The bytes begin with `asks`, and then `ask`.
pub record BeginWith (role : Role) (bytes : List ℕ) (asks : List Ask) (ask : Ask) : Type 0 where
  pub behind : List ℕ
  pub first : Joins role bytes asks behind
  pub rest : List ℕ
  pub all : Joins role bytes (asks ++ ask ∷ []) rest

-- The connection ended inside these bytes, at a lost edit if it lost one.
pub record Ends (role : Role) (bytes : List ℕ) (limit : ℕ) (k k' : Pass) (taken taken' : Option (List ℕ)) (served : List Served) (end : LinkEnd) : Type 0 where
  pub asks : List Ask
  pub rest : List ℕ
  pub joins : Joins role bytes asks rest
  pub lost : List Entry
  pub serves : ServesBut k k' asks served lost
  pub loses : Loses role bytes asks k k' served lost end
  pub output : List ℕ
  pub written : Appends taken taken' output
  pub how : EndsInside role bytes k.settings limit k'.seen asks served rest output end

-- One more request was served, or the connection ended at it.
abbrev pub ExchangeDone : (limit : ℕ) (k k' : Pass) (taken taken' : Option (List ℕ)) → List Ask → Ask → List Served → Option LinkEnd → Type 0
ExchangeDone limit k k' taken taken' asks ask served None = RequestsServed limit k k' taken taken' (asks ++ ask ∷ []) served
ExchangeDone limit k k' taken taken' asks ask served (Some end) =
    (role : Role) (bytes : List ℕ) → BeginWith role bytes asks ask → Ends role bytes limit k k' taken taken' served end

-- The reader was fed these bytes and continues, and all its requests were served.
pub record BytesServed (role : Role) (bytes : List ℕ) (limit : ℕ) (k k' : Pass) (taken taken' : Option (List ℕ)) (reader : Reader) (served : List Served) : Type 0 where
  pub role_is : reader.role ≡ role
  pub idle : reader.ready ≡ None
  pub fine : reader.error ≡ None
  pub asks : List Ask
  pub read : HasRead bytes asks reader
  pub goes : RequestsServed limit k k' taken taken' asks served

-- `n` more bytes of the chunk were read, or the connection ended in it.
abbrev pub StepDone : Role → (bytes piece : List ℕ) (limit : ℕ) (k k' : Pass) (taken taken' : Option (List ℕ)) → Reader → List Served → Result ℕ LinkEnd → Type 0
StepDone role bytes piece limit k k' taken taken' reader served (Ok n) = BytesServed role (bytes ++ take n piece) limit k k' taken taken' reader served
StepDone role bytes piece limit k k' taken taken' reader served (Err end) = Ends role (bytes ++ piece) limit k k' taken taken' served end

-- One more chunk was read, or the connection ended in it.
abbrev pub FeedDone : Role → (bytes piece : List ℕ) (limit : ℕ) (k k' : Pass) (taken taken' : Option (List ℕ)) → Reader → List Served → Option LinkEnd → Type 0
FeedDone role bytes piece limit k k' taken taken' reader served None = BytesServed role (bytes ++ piece) limit k k' taken taken' reader served
FeedDone role bytes piece limit k k' taken taken' reader served (Some end) = Ends role (bytes ++ piece) limit k k' taken taken' served end

-- All bytes that were read off the connection were fed, and `consumed` counts them.
pub record ReadsServed (role : Role) (limit : ℕ) (k k' : Pass) (left left' taken taken' : Option (List ℕ)) (reader : Reader) (served : List Served) (consumed : ℕ) : Type 0 where
  pub some : 0 < limit
  pub bytes : List ℕ
  pub midway : BytesServed role bytes limit k k' taken taken' reader served
  pub off : Consumes left left' bytes
  pub counted : consumed ≡ min (length bytes) (2 ^ 64 - 1)

-- The input ended after `consumed` bytes: between two requests, or inside one.
abbrev pub EndsInput : Reader → (consumed : ℕ) → LinkEnd → Type 0
EndsInput reader consumed Closed = reader.kept ≡ []
EndsInput reader consumed (Cut at) = (reader.kept ≢ []) × (at ≡ consumed)
EndsInput reader consumed other = ⊥

-- The requests of one more read were served, or the connection ended.
abbrev pub PumpDone : Role → (limit : ℕ) (k k' : Pass) (left left' taken taken' : Option (List ℕ)) → Reader → List Served → ℕ → Option LinkEnd → Type 0
PumpDone role limit k k' left left' taken taken' reader served consumed None = ReadsServed role limit k k' left left' taken taken' reader served consumed
PumpDone role limit k k' left left' taken taken' reader served consumed (Some end) = LinkEnded role limit k k' left taken taken' served end
