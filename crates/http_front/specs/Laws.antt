-- Laws that follow from the definitions, proved for all bytes and both roles.
use Rattle.std.specs.Prelude.{◌≡◌, List, ℕ, [], ◌++◌, Some, None}
use Rattle.http_heads.specs.declared.refusal.HeadError.{HeadError}
use Rattle.share_asks.specs.declared.ask.Ask.{Ask}
use Rattle.share_asks.specs.declared.ask.Role.{Role}
use Rattle.http_front.specs.Readings.{Reading, reading, Joins, IsReading, GoesOn}

-- bytes have at most one reading
abbrev pub ReadingsAreOne : Type 0
ReadingsAreOne = (role : Role) (bytes : List ℕ) (r q : Reading) → IsReading role bytes r → IsReading role bytes q → r ≡ q

-- the requests so far are the first requests of whatever follows
abbrev pub FirstAsksStay : Type 0
FirstAsksStay =
    (role : Role) (front more : List ℕ) (asks : List Ask) (rest : List ℕ) (r : Reading) → Joins role front asks rest
    → IsReading role (front ++ more) r → GoesOn asks r.asks

-- a refusal stays, whatever bytes follow
abbrev pub RefusalsStay : Type 0
RefusalsStay =
    (role : Role) (bytes more : List ℕ) (r : Reading) (e : HeadError) → IsReading role bytes r → r.fault ≡ Some e
    → IsReading role (bytes ++ more) (record r { rest = r.rest ++ more })

-- requests one after another read as exactly these requests
abbrev pub JoinedRequestsRead : Type 0
JoinedRequestsRead = (role : Role) (bytes : List ℕ) (asks : List Ask) → Joins role bytes asks [] → IsReading role bytes (reading asks [] None)

-- the empty bytes read as no requests
abbrev pub NothingReads : Type 0
NothingReads = (role : Role) → IsReading role [] (reading [] [] None)

-- all bytes have a reading
abbrev pub AllBytesRead : Type 0
AllBytesRead = (role : Role) (bytes : List ℕ) → (r : Reading) × IsReading role bytes r
