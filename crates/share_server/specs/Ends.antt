-- How a connection ends, by its input, the requests served and the output. An end inside the bytes stays whatever
-- follows; an end of the input is about all of it.
use Rattle.std.specs.Prelude.{◌≡◌, ◌⊎◌, ◌≢◌, ℕ, ◌+◌, ◌-◌, ◌^◌, min, List, [], ◌∷◌, ◌++◌, length, true, false, Option, Some, None}
use Rattle.item_model.specs.declared.changes.Entry.{Entry}
use Rattle.http_heads.specs.declared.refusal.HeadError.{HeadError}
use Rattle.share_asks.specs.declared.ask.Ask.{Ask}
use Rattle.share_asks.specs.declared.ask.Role.{Role}
use Rattle.share_replies.specs.Settings.{Settings}
use Rattle.http_front.specs.Readings.{IsReading, reading}
use Rattle.reply_bytes.specs.ReplyBytes.{failure_bytes, refusal_bytes, status_of}
use Rattle.share_server.specs.declared.report.Served.{Served}
use Rattle.share_server.specs.declared.report.LinkEnd.{LinkEnd}
use Rattle.share_server.specs.declared.report.LinkEnd.TheVariants.{Closed, Cut, Refused, Spent, Stopped, LinkFault, FileFault, Memory}
use Rattle.share_server.specs.Served.{at_point}
use Rattle.share_server.specs.Replies.{GoOn, due, replies}

-- The requests and their reports: the earlier ones, and the last.
pub record Parts (asks : List Ask) (served : List Served) : Type 0 where
  pub earlier_asks : List Ask
  pub ask : Ask
  pub earlier : List Served
  pub last : Served
  pub asks_are : asks ≡ earlier_asks ++ ask ∷ []
  pub served_are : served ≡ earlier ++ last ∷ []

-- The connection ended with `end` after the last reply, and stayed open after the earlier ones.
pub record EndsBehind (limit : ℕ) (h : List Entry) (asks : List Ask) (served : List Served) (end : LinkEnd) : Type 0 where
  pub parts : Parts asks served
  pub goes_on : GoOn limit h 1 parts.earlier_asks parts.earlier
  pub is_due : due limit (length parts.earlier + 1) parts.ask (at_point h parts.last) ≡ Some end

-- It stayed open after all replies, or after all but the last.
abbrev pub GoOnToLast : ℕ → List Entry → List Ask → List Served → Type 0
GoOnToLast limit h asks served = GoOn limit h 1 asks served ⊎ ((parts : Parts asks served) × GoOn limit h 1 parts.earlier_asks parts.earlier)

-- All requests in the bytes were served, the connection stayed open, and `rest` is not a complete request.
pub record Idles (role : Role) (bytes : List ℕ) (limit : ℕ) (h : List Entry) (asks : List Ask) (served : List Served) (rest : List ℕ) (fault : Option HeadError) : Type 0 where
  pub goes_on : GoOn limit h 1 asks served
  pub reads : IsReading role bytes (reading asks rest fault)

-- The output after an allocation failed: all replies, then optionally a 500; or all but the last, then optionally a
-- 500 if the last request added no entry.
pub data WantsMemory (settings : Settings) (limit : ℕ) (h : List Entry) (asks : List Ask) (served : List Served) (output : List ℕ) : Type 0 where
  all : output ≡ replies settings limit h asks served → WantsMemory settings limit h asks served output
  all_told : output ≡ replies settings limit h asks served ++ failure_bytes true → WantsMemory settings limit h asks served output
  without_last : (parts : Parts asks served) → output ≡ replies settings limit h parts.earlier_asks parts.earlier
      → WantsMemory settings limit h asks served output
  in_its_place : (parts : Parts asks served) → parts.last.added ≡ false
      → output ≡ replies settings limit h parts.earlier_asks parts.earlier ++ failure_bytes true → WantsMemory settings limit h asks served output

-- `output` is a prefix of `whole`.
abbrev pub IsCutOf : List ℕ → List ℕ → Type 0
IsCutOf output whole = (missing : List ℕ) × (whole ≡ output ++ missing)

-- The output of a connection that failed: a prefix of the replies, of the output after a failed allocation, or of the
-- replies and the refusal of malformed bytes.
pub data Breaks (role : Role) (bytes : List ℕ) (settings : Settings) (limit : ℕ) (h : List Entry) (asks : List Ask) (served : List Served) (rest output : List ℕ) : Type 0 where
  replying : GoOnToLast limit h asks served → IsCutOf output (replies settings limit h asks served)
      → Breaks role bytes settings limit h asks served rest output
  wanting : (whole : List ℕ) → GoOnToLast limit h asks served → WantsMemory settings limit h asks served whole → IsCutOf output whole
      → Breaks role bytes settings limit h asks served rest output
  refusing : (error : HeadError) → Idles role bytes limit h asks served rest (Some error)
      → IsCutOf output (replies settings limit h asks served ++ refusal_bytes error) → Breaks role bytes settings limit h asks served rest output

-- The ends that stay whatever bytes follow.
abbrev pub EndsInside : Role → List ℕ → Settings → ℕ → List Entry → List Ask → List Served → (rest output : List ℕ) → LinkEnd → Type 0
EndsInside role bytes settings limit h asks served rest output Closed =
    EndsBehind limit h asks served Closed × (output ≡ replies settings limit h asks served)
EndsInside role bytes settings limit h asks served rest output Stopped =
    EndsBehind limit h asks served Stopped × (output ≡ replies settings limit h asks served)
EndsInside role bytes settings limit h asks served rest output Spent =
    (EndsBehind limit h asks served Spent ⊎ ((limit ≡ 0) × (served ≡ []))) × (output ≡ replies settings limit h asks served)
EndsInside role bytes settings limit h asks served rest output (Cut at) = ⊥
EndsInside role bytes settings limit h asks served rest output (Refused status) =
    (error : HeadError) × Idles role bytes limit h asks served rest (Some error) × (status ≡ status_of error)
    × (output ≡ replies settings limit h asks served ++ refusal_bytes error)
EndsInside role bytes settings limit h asks served rest output LinkFault = Breaks role bytes settings limit h asks served rest output
EndsInside role bytes settings limit h asks served rest output FileFault = GoOn limit h 1 asks served × (output ≡ replies settings limit h asks served)
EndsInside role bytes settings limit h asks served rest output Memory = GoOnToLast limit h asks served × WantsMemory settings limit h asks served output

-- The ends of the input: between two requests, or inside one after `at` bytes.
abbrev pub EndsAtEnd : Role → List ℕ → Settings → ℕ → List Entry → List Ask → List Served → (rest output : List ℕ) → LinkEnd → Type 0
EndsAtEnd role input settings limit h asks served rest output Closed =
    Idles role input limit h asks served rest None × (rest ≡ []) × (output ≡ replies settings limit h asks served)
EndsAtEnd role input settings limit h asks served rest output (Cut at) =
    Idles role input limit h asks served rest None × (rest ≢ []) × (at ≡ min (length input) (2 ^ 64 - 1))
    × (output ≡ replies settings limit h asks served)
EndsAtEnd role input settings limit h asks served rest output other = ⊥
