-- If what a run reads is known and nothing outside fails, its status is decided by its arguments, its input and the
-- bytes of its connection. Instead of any status, an allocation failure gives 9.
use Rattle.std.specs.Prelude.{◌≡◌, ◌≢◌, ◌<◌, ◌≤◌, ◌⊎◌, ◌++◌, ℕ, List, Bool, true, false, length, Option, Some, None}
use Rattle.dmap_tags.specs.Codes.{code}
use Rattle.code_table.specs.Standard.{standard_rows}
use Rattle.item_model.specs.declared.query.Query.{Query}
use Rattle.item_model.specs.declared.refusal.QueryError.{QueryError}
use Rattle.item_model.specs.declared.refusal.QueryError.TheVariants as query_error
use Rattle.item_model.specs.declared.request.Target.{Target}
use Rattle.share_history.specs.Listings.{Listing}
use Rattle.http_heads.specs.Messages.{Message, print_message}
use Rattle.http_client.specs.Replies.{IsReply, Reply}
use Rattle.command_core.specs.ReadRecords.{records_limit}
use Rattle.command_core.specs.Seen.{Run}
use Rattle.mirror_core.specs.Mirrored.{Mirrored}
use Rattle.mirror_client.specs.Exchanges.{AreAnswered, Exchange, messages}
use Rattle.mirror_client.specs.Stages.{Begun, Closed, Path}
use Rattle.mirror_client.specs.Steps.{Known}
use Rattle.mirror_client.specs.Tellings.{TellsNumber}
use Rattle.link_commands.specs.Looks.{AsksMirror, AsksQuery, HasRefusal, meta_or_default}

abbrev pub IsOrMemory : (wanted status : ℕ) → Type 0
IsOrMemory wanted status = (status ≡ wanted) ⊎ (status ≡ 9)

-- ---- edit

-- the expected reply to a stop; to an edit, one with its revision, or one that says that it had no records
abbrev pub IsDueAnswer : (stop : Bool) → Reply → Type 0
IsDueAnswer true answer = answer.0 ≡ 204
IsDueAnswer false answer = (answer.0 ≡ 204) ⊎ ((n : ℕ) × TellsNumber (code "musr") standard_rows answer n)

-- the bytes begin with an expected reply
pub record BeginsDue (stop : Bool) (bytes : List ℕ) : Type 0 where
  pub message : Message
  pub answer : Reply
  pub rest : List ℕ
  pub is : IsReply message answer
  pub split : bytes ≡ print_message message ++ rest
  pub due : IsDueAnswer stop answer

-- the input is within its limit; a stop reads none
abbrev pub IsSendable : (stop : Bool) → Option (List ℕ) → Type 0
IsSendable true left = Unit {0}
IsSendable false left = (input : List ℕ) × (left ≡ Some input) × (length input ≤ records_limit)

pub record DecidesEdit (stop : Bool) (told : Run) (status : ℕ) : Type 0 where
  -- the input is too long
  pub long : stop ≡ false → (input : List ℕ) → told.before.input.left ≡ Some input → records_limit < length input → IsOrMemory 8 status
  -- it is sent, and the reply is expected
  pub due : IsSendable stop told.before.input.left → (bytes : List ℕ) → told.before.around.net.next_input ≡ Some bytes → BeginsDue stop bytes → IsOrMemory 0 status
  -- or the bytes do not begin with an expected reply
  pub unexpected : IsSendable stop told.before.input.left → (bytes : List ℕ) → told.before.around.net.next_input ≡ Some bytes → (BeginsDue stop bytes → ⊥)
      → IsOrMemory 7 status

-- ---- follow

-- the query is refused, or it is read and there are too many names
abbrev pub IsTextRefused : (query meta : Option (List ℕ)) → Type 0
IsTextRefused query meta =
    ((error : QueryError) × (error ≢ query_error.Memory) × HasRefusal query error)
    ⊎ ((asked : Option Query) × AsksQuery query asked × (meta_or_default meta ≡ None))

-- the bytes begin with the replies that lead the mirror from the first request through all rounds to the end
pub record BeginsRun (host : List ℕ) (m : Mirrored) (rounds : ℕ) (bytes : List ℕ) : Type 0 where
  pub exchanges : List Exchange
  pub known : Known
  pub listings : List Listing
  pub rest : List ℕ
  pub path : Path host m rounds Begun exchanges (Closed known listings)
  pub answered : AreAnswered exchanges
  pub split : bytes ≡ messages exchanges ++ rest
  pub one_each : length listings ≡ rounds

-- the texts select this mirror, and the bytes begin with a whole run for it
pub record HasRun (host : List ℕ) (rounds : ℕ) (query meta : Option (List ℕ)) (target : Target) (bytes : List ℕ) : Type 0 where
  pub m : Mirrored
  pub asks : AsksMirror query meta target m
  pub run : BeginsRun host m rounds bytes

-- .. or with none
pub record HasNoRun (host : List ℕ) (rounds : ℕ) (query meta : Option (List ℕ)) (target : Target) (bytes : List ℕ) : Type 0 where
  pub m : Mirrored
  pub asks : AsksMirror query meta target m
  pub none : BeginsRun host m rounds bytes → ⊥

pub record DecidesFollow (host : List ℕ) (rounds : ℕ) (query meta : Option (List ℕ)) (target : Target) (told : Run) (status : ℕ) : Type 0 where
  pub due : (bytes : List ℕ) → told.before.around.net.next_input ≡ Some bytes → HasRun host rounds query meta target bytes → IsOrMemory 0 status
  pub unexpected : (bytes : List ℕ) → told.before.around.net.next_input ≡ Some bytes → HasNoRun host rounds query meta target bytes → IsOrMemory 7 status
