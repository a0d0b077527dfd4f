-- Laws of all requests.
use Rattle.std.specs.Prelude.{List, ℕ, [], ◌∷◌, None}
use Rattle.http_front.specs.Readings.{IsReading, reading}
use Rattle.share_asks.specs.declared.ask.Ask.{Ask}
use Rattle.http_client.specs.Requests.{CanSend, HasNumbers, IsRead, IsSent, request_text}
use Rattle.http_client.specs.Targets.{IsTextOf}

-- the text of a request reads as exactly this request, for a reader of its role
abbrev pub RequestsReadBack : Type 0
RequestsReadBack =
    (ask : Ask) (host : List ℕ) → CanSend ask.want → HasNumbers ask.want → IsTextOf ask.want → IsRead ask.want → IsSent ask host
    → IsReading ask.role (request_text ask.want host) (reading (ask ∷ []) [] None)
