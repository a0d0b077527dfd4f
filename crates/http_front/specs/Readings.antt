-- The reading of bytes, however they are split: requests, then bytes that begin with no complete request, and why
-- those are refused, if they are.
use Rattle.std.specs.Prelude.{◌≡◌, ℕ, List, ◌++◌, Option, Some, None}
use Rattle.std.specs.List.{flat_map, AllZip}
use Rattle.http_heads.specs.declared.kind.Kind.TheVariants.{Request}
use Rattle.http_heads.specs.declared.refusal.HeadError.{HeadError}
use Rattle.http_heads.specs.Messages.{HasNoMessage, Message, Refuses, print_message}
use Rattle.share_asks.specs.declared.ask.Ask.{Ask}
use Rattle.share_asks.specs.declared.ask.Role.{Role}
use Rattle.http_front.specs.Asks.{Spells}

pub record Reading : Type 0 where
  pub asks : List Ask
  pub rest : List ℕ
  pub fault : Option HeadError

abbrev pub reading : List Ask → List ℕ → Option HeadError → Reading
reading asks rest fault = record { asks = asks; rest = rest; fault = fault }

-- the bytes are the requests, one after another, and then the rest
pub record Joins (role : Role) (bytes : List ℕ) (asks : List Ask) (rest : List ℕ) : Type 0 where
  pub requests : List Message
  pub spell : AllZip (Spells role) requests asks
  pub joined : bytes ≡ flat_map print_message requests ++ rest

abbrev pub FaultIs : List ℕ → Option HeadError → Type 0
FaultIs rest None = (e : HeadError) → Refuses Request rest e → ⊥
FaultIs rest (Some e) = Refuses Request rest e

pub record IsReading (role : Role) (bytes : List ℕ) (r : Reading) : Type 0 where
  pub joins : Joins role bytes r.asks r.rest
  pub last : HasNoMessage Request r.rest
  pub fault_is : FaultIs r.rest r.fault

-- the requests begin with these
abbrev pub GoesOn : List Ask → List Ask → Type 0
GoesOn asks all = (others : List Ask) × (all ≡ asks ++ others)
