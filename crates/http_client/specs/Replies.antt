-- The replies in bytes, however they are split, and where bytes stop being replies.
use Rattle.std.specs.Prelude.{◌≡◌, ◌≢◌, ℕ, ◌+◌, List, [], ◌++◌, length, take, false, option_to_list, Option, Some, None, Result, Ok, Err}
use Rattle.std.specs.List.{flat_map, AllZip}
use Rattle.httparse.specs.Grammar.{ResponseHead, status_code}
use Rattle.http_heads.specs.declared.kind.Kind.TheVariants as kind
use Rattle.http_heads.specs.declared.refusal.HeadError.{HeadError}
use Rattle.http_heads.specs.Gathering.{Gathered, IsAt, is_whole, kept}
use Rattle.http_heads.specs.Heads.{IsReplyHead}
use Rattle.http_heads.specs.Messages.{HasNoMessage, IsMessage, IsRefused, Message, Refuses, print_message}
use Rattle.http_client.specs.declared.refusal.ReplyError.{ReplyError}
use Rattle.http_client.specs.declared.refusal.ReplyError.TheVariants.{Bad, Memory}

-- a status and a body
abbrev pub Reply : Type 0
Reply = ℕ × List ℕ

-- the message is this reply
abbrev pub IsReply : Message → Reply → Type 0
IsReply m reply =
    IsMessage kind.Reply m × ((h : ResponseHead) × IsReplyHead m.head h × (reply.0 ≡ status_code h)) × (reply.1 ≡ m.body)

-- the bytes are the replies, one after another, and then the rest
pub record Joins (bytes : List ℕ) (replies : List Reply) (rest : List ℕ) : Type 0 where
  pub messages : List Message
  pub are : AllZip IsReply messages replies
  pub joined : bytes ≡ flat_map print_message messages ++ rest

-- the bytes are the replies, and then possibly the start of one more
pub record AreReplies (bytes : List ℕ) (replies : List Reply) (rest : List ℕ) : Type 0 where
  pub joins : Joins bytes replies rest
  pub last : HasNoMessage kind.Reply rest
  pub goes : (e : HeadError) → Refuses kind.Reply rest e → ⊥

-- no reply begins with the rest, and `at` counts all bytes up to the one that shows it
pub record IsBad (bytes rest : List ℕ) (at : ℕ) : Type 0 where
  pub front : List ℕ
  pub more : List ℕ
  pub cause : HeadError
  pub split : rest ≡ front ++ more
  pub refused : IsRefused kind.Reply front cause
  pub counted : at + length more ≡ length bytes

abbrev pub Explains : List ℕ → List ℕ → ReplyError → Type 0
Explains bytes rest (Bad at) = IsBad bytes rest at
Explains bytes rest Memory = Unit {0}

-- a reader of replies: the buffered bytes of the next one, the complete reply in `ready`, the error that stopped it,
-- and how many bytes it took
pub record Reader : Type 0 where
  pub kept : List ℕ
  pub ready : Option Reply
  pub error : Option ReplyError
  pub taken : ℕ

-- the buffered bytes are not a complete reply; there are none if `ready` has a reply or an error stopped the reader
pub record Holds (g : Gathered) (ready : Option Reply) (error : Option ReplyError) : Type 0 where
  pub kind_is : g.kind ≡ kind.Reply
  pub at : IsAt g
  pub partial : is_whole g.phase ≡ false
  pub waits : ready ≢ None → kept g ≡ []
  pub stopped : error ≢ None → kept g ≡ []

abbrev pub waiting : Reader → List Reply
waiting r = option_to_list r.ready

abbrev pub ReadAs : List ℕ → List Reply → Reader → Option ReplyError → Type 0
ReadAs fed handed r None = AreReplies fed (handed ++ waiting r) r.kept × (r.taken ≡ length fed)
ReadAs fed handed r (Some e) = (rest : List ℕ) × Joins fed handed rest × (r.ready ≡ None) × Explains fed rest e

-- the reader was fed these bytes and has returned these replies
abbrev pub HasRead : List ℕ → List Reply → Reader → Type 0
HasRead fed handed r = ReadAs fed handed r r.error

-- the bytes that a call of `feed` adds
abbrev pub fed_with : List ℕ → List ℕ → Result ℕ ReplyError → List ℕ
fed_with fed piece (Ok n) = fed ++ take n piece
fed_with fed piece (Err e) = fed ++ piece
