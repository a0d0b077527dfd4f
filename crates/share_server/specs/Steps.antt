-- What a call does to a connection: by its handle and the connection as they were when serving it began, and as they
-- are after the call.
use Rattle.std.specs.Prelude.{ℕ, List, Option, Result}
use Rattle.outside_net.specs.Bounds.{Links}
use Rattle.share_asks.specs.declared.ask.Ask.{Ask}
use Rattle.share_asks.specs.declared.ask.Role.{Role}
use Rattle.http_front.specs.Readers.{Reader}
use Rattle.share_server.specs.declared.link.reading.LinkProgress.{LinkProgress}
use Rattle.share_server.specs.declared.report.LinkEnd.{LinkEnd}
use Rattle.share_server.specs.declared.report.LinkReport.{LinkReport}
use Rattle.share_server.specs.declared.report.Served.{Served}
use Rattle.share_server.specs.Links.{LinkEnded}
use Rattle.share_server.specs.Passes.{Pass}
use Rattle.share_server.specs.Progress.{RequestsServed, BytesServed, ReadsServed, ExchangeDone, StepDone, FeedDone, PumpDone}
use Rattle.share_server.specs.Serving.{LinkServed}

-- A handle and the connection that it serves, at a moment: what the handle has seen, what is left to read, and what was
-- written.
pub record ServingSeen : Type 0 where
  pub pass : Pass
  pub left : Option (List ℕ)
  pub taken : Option (List ℕ)

abbrev pub serving_of : {K : Type 0} → Links K → Pass → K → ServingSeen
serving_of g pass link = record { pass = pass; left = g.left link; taken = g.taken link }

-- The same, with the reader of the requests, and the reports of those that were served.
pub record ProgressSeen : Type 0 where
  pub serving : ServingSeen
  pub reader : Reader
  pub served : List Served

abbrev pub progress_of : {K : Type 0} → Links K → Pass → K → LinkProgress → ProgressSeen
progress_of g pass link progress = record { serving = serving_of g pass link; reader = progress.reader; served = progress.served.items }

-- These requests were served, all replies are written, and the connection stays open.
abbrev pub AfterRequests : (limit : ℕ) (start now : ServingSeen) → List Ask → List Served → Type 0
AfterRequests limit start now asks served = RequestsServed limit start.pass now.pass start.taken now.taken asks served

-- One more request was served, or the connection ended at it.
abbrev pub IsExchange : (limit : ℕ) (start now : ServingSeen) → List Ask → Ask → List Served → Option LinkEnd → Type 0
IsExchange limit start now asks ask served end = ExchangeDone limit start.pass now.pass start.taken now.taken asks ask served end

-- The reader was fed these bytes and continues, and all its requests were served.
abbrev pub AfterBytes : Role → (bytes : List ℕ) (limit : ℕ) (start : ServingSeen) (now : ProgressSeen) → Type 0
AfterBytes role bytes limit start now = BytesServed role bytes limit start.pass now.serving.pass start.taken now.serving.taken now.reader now.served

-- More bytes of the chunk were read, as many as the result says, or the connection ended in it.
abbrev pub IsStep : Role → (bytes piece : List ℕ) (limit : ℕ) (start : ServingSeen) (now : ProgressSeen) → Result ℕ LinkEnd → Type 0
IsStep role bytes piece limit start now result =
    StepDone role bytes piece limit start.pass now.serving.pass start.taken now.serving.taken now.reader now.served result

-- The whole chunk was read, or the connection ended in it.
abbrev pub IsFeed : Role → (bytes piece : List ℕ) (limit : ℕ) (start : ServingSeen) (now : ProgressSeen) → Option LinkEnd → Type 0
IsFeed role bytes piece limit start now end =
    FeedDone role bytes piece limit start.pass now.serving.pass start.taken now.serving.taken now.reader now.served end

-- All bytes that were read off the connection were fed, and `consumed` counts them.
abbrev pub AfterReads : Role → (limit : ℕ) (start : ServingSeen) (now : ProgressSeen) (consumed : ℕ) → Type 0
AfterReads role limit start now consumed =
    ReadsServed role limit start.pass now.serving.pass start.left now.serving.left start.taken now.serving.taken now.reader now.served consumed

-- The requests of one more read were served, or the connection ended.
abbrev pub IsPump : Role → (limit : ℕ) (start : ServingSeen) (now : ProgressSeen) (consumed : ℕ) → Option LinkEnd → Type 0
IsPump role limit start now consumed end =
    PumpDone role limit start.pass now.serving.pass start.left now.serving.left start.taken now.serving.taken now.reader now.served consumed end

-- The connection was served to this end, for at most `limit` requests.
abbrev pub EndsLink : Role → (limit : ℕ) (start now : ServingSeen) → List Served → LinkEnd → Type 0
EndsLink role limit start now served end = LinkEnded role limit start.pass now.pass start.left start.taken now.taken served end

-- The connection was served to its end, by a worker that may serve `budget` requests more, and so reported.
abbrev pub ServesLink : Role → (budget : ℕ) (start now : ServingSeen) → LinkReport → Type 0
ServesLink role budget start now report = LinkServed role budget start.pass now.pass start.left start.taken now.taken report
