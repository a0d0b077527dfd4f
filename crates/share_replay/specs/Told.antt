-- The next output on a connection, as the code has it.
use Rattle.std.specs.Prelude.{◌≡◌, ◌<◌, ℕ, Bool, Some, None}
use Rattle.http_front.specs.ReplyHeads.{HasReason}
use Rattle.http_heads.specs.declared.refusal.HeadError.{HeadError}
use Rattle.reply_bytes.specs.ReplyBytes.{status_of}
use Rattle.share_asks.specs.declared.ask.Ask.{Ask}
use Rattle.share_core.specs.declared.answer.ReplyContent.{ReplyContent}
use Rattle.share_replies.specs.Answers.{Shared}
use Rattle.share_replay.specs.Asked.{IsReplied}
use Rattle.share_replay.specs.Connections.{Connection, asked_on, fault_on}
use Rattle.share_replay.specs.Turns.{due_on, most_requests}
use Rattle.share_replay.specs.declared.asking.Output.{Output}
use Rattle.share_replay.specs.declared.asking.Output.TheVariants.{Reply, Refusal, Nothing}

-- The reply to the next request.
pub record IsDueReply (old new : Shared) (number : ℕ) (c : Connection) (content : ReplyContent) (close : Bool) : Type 0 where
  pub ask : Ask
  pub asked : asked_on c ≡ Some ask
  pub few : c.served < most_requests
  pub closes : close ≡ ask.close
  pub says : IsReplied old new number ask.want content

-- A refusal.
pub record IsDueRefusal (old new : Shared) (c : Connection) (status : ℕ) : Type 0 where
  pub error : HeadError
  pub asked : asked_on c ≡ None
  pub fault : fault_on c ≡ Some error
  pub few : c.served < most_requests
  pub by : status ≡ status_of error
  pub reason : HasReason status
  pub stays : new ≡ old

-- Nothing.
pub record IsNotDue (old new : Shared) (c : Connection) : Type 0 where
  pub none : due_on old.settings old.history c ≡ None
  pub stays : new ≡ old

abbrev pub IsDue : Shared → Shared → ℕ → Connection → Output → Type 0
IsDue old new number c (Reply content close) = IsDueReply old new number c content close
IsDue old new number c (Refusal status) = IsDueRefusal old new c status
IsDue old new number c Nothing = IsNotDue old new c
