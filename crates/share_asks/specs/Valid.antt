-- Valid operations: those that may be read from bytes. Queries are proper, edits are ones that records may give,
-- and no error is an allocation failure, which is not an answer to a request.
use Rattle.std.specs.Prelude.{◌≢◌, ⊤, Option, Some, None, Ok, Err}
use Rattle.item_model.specs.Proper.{IsProper}
use Rattle.item_model.specs.Valid.{AreValid}
use Rattle.item_model.specs.declared.query.Query.{Query}
use Rattle.item_model.specs.declared.refusal.QueryError.TheVariants as query
use Rattle.item_model.specs.declared.refusal.RecordWhy.{RecordWhy}
use Rattle.item_model.specs.declared.refusal.RecordWhy.TheVariants as why
use Rattle.records_import.specs.declared.refusal.RecordError.{RecordError}
use Rattle.records_import.specs.declared.refusal.RecordError.TheVariants as records
use Rattle.share_asks.specs.declared.ask.AskError.{AskError}
use Rattle.share_asks.specs.declared.ask.AskError.TheVariants as fault
use Rattle.share_asks.specs.declared.ask.Want.{Want}
use Rattle.share_asks.specs.declared.ask.Want.TheVariants.{ServerInfo, Codes, Login, Logout, Update, Databases, Rows, Lists, Values, Edit, Stop, Bad}

abbrev pub MayAsk : Option Query → Type 0
MayAsk None = Unit {0}
MayAsk (Some q) = IsProper q

abbrev pub IsValidFault : AskError → Type 0
IsValidFault fault.Path = Unit {0}
IsValidFault (fault.Method allow) = Unit {0}
IsValidFault (fault.Parameter name) = Unit {0}
IsValidFault (fault.Query error) = error ≢ query.Memory

-- why a cell is refused: not because a query ran out of memory
abbrev pub IsValidReason : RecordWhy → Type 0
IsValidReason (why.Query error) = error ≢ query.Memory
IsValidReason other = ⊤

abbrev pub IsValidRefusal : RecordError → Type 0
IsValidRefusal (records.Header column) = ⊤
IsValidRefusal (records.Field row column reason) = IsValidReason reason
IsValidRefusal (records.Length row) = ⊤
IsValidRefusal (records.TooMany row) = ⊤
IsValidRefusal records.Memory = ⊥

abbrev pub IsValidWant : Want → Type 0
IsValidWant ServerInfo = Unit {0}
IsValidWant Codes = Unit {0}
IsValidWant Login = Unit {0}
IsValidWant (Logout session) = Unit {0}
IsValidWant (Update session revision) = Unit {0}
IsValidWant (Databases session) = Unit {0}
IsValidWant (Rows session target look) = MayAsk look.query
IsValidWant (Lists session) = Unit {0}
IsValidWant (Values session browse asked) = MayAsk asked
IsValidWant (Edit (Ok batch)) = AreValid batch
IsValidWant (Edit (Err error)) = IsValidRefusal error
IsValidWant Stop = Unit {0}
IsValidWant (Bad error) = IsValidFault error
