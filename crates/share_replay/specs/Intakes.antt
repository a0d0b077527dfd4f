-- The bytes of a connection in the code: the reader was fed a prefix of them. It returned the requests that were
-- answered and, if known, the next one.
use Rattle.std.specs.Prelude.{◌≡◌, ◌≢◌, ◌≤◌, ◌<◌, ℕ, List, ◌++◌, length, take, false, Bool, Some, None, IfSome, option_to_list}
use Rattle.http_heads.specs.declared.refusal.HeadError.{HeadError}
use Rattle.http_heads.specs.declared.refusal.HeadError.TheVariants.{Memory}
use Rattle.http_front.specs.Readers.{HasRead}
use Rattle.http_front.specs.Readings.{IsReading, reading}
use Rattle.share_asks.specs.Valid.{IsValidWant}
use Rattle.share_asks.specs.declared.ask.Ask.{Ask}
use Rattle.share_replay.specs.Turns.{most_requests}
use Rattle.share_replay.specs.declared.intake.Intake.{Intake}

-- The reader returned `asks`, and continues.
pub record HasTaken (asks : List Ask) (i : Intake) : Type 0 where
  pub within : i.fed ≤ length i.bytes.items
  pub read : HasRead (take i.fed i.bytes.items) asks i.reader
  pub ready : i.reader.ready ≡ None
  pub error : i.reader.error ≡ None

-- The reading of all the bytes is `asks` and a rest that is refused.
pub record IsStuck (asks : List Ask) (error : HeadError) (i : Intake) : Type 0 where
  pub fault : error ≢ Memory
  pub rest : List ℕ
  pub read : IsReading i.reader.role i.bytes.items (reading asks rest (Some error))

-- The requests `asks` were answered.
pub record HasPassed (asks : List Ask) (i : Intake) : Type 0 where
  pub taken : i.fault ≡ None → HasTaken (asks ++ option_to_list i.next) i
  pub stuck : (error : HeadError) → i.fault ≡ Some error → IsStuck (asks ++ option_to_list i.next) error i
  pub valid : IfSome i.next (λ ask. IsValidWant ask.want)

-- The next step is known: a request, a refusal, or that all bytes were read.
pub record IsReadOn (asks : List Ask) (i : Intake) : Type 0 where
  pub passed : HasPassed asks i
  pub all : i.next ≡ None → i.fault ≡ None → i.fed ≡ length i.bytes.items

-- The same of a connection that has not ended, after `served` answers.
pub record Stands (i : Intake) (served : ℕ) : Type 0 where
  pub asks : List Ask
  pub count : length asks ≡ served
  pub few : served < most_requests
  pub within : i.fed ≤ length i.bytes.items
  pub read : IsReadOn asks i

abbrev pub StandsUntilEnd : Bool → Intake → ℕ → Type 0
StandsUntilEnd is_ended i served = is_ended ≡ false → Stands i served
