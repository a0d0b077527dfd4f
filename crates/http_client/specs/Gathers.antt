-- What a further chunk makes of an incomplete reply.
use Rattle.std.specs.Prelude.{◌≡◌, ◌≢◌, ℕ, ◌+◌, ◌<◌, ◌≤◌, List, [], ◌++◌, length, take, true, false, Option, Some, None, Result, Ok, Err}
use Rattle.http_heads.specs.declared.kind.Kind.TheVariants as kind
use Rattle.http_heads.specs.declared.refusal.HeadError.{HeadError}
use Rattle.http_heads.specs.Gathering.{Gathered, IsAt, IsIdle, is_whole, kept}
use Rattle.http_heads.specs.Messages.{IsRefused, Message, print_message}
use Rattle.http_client.specs.declared.refusal.ReplyError.{ReplyError}
use Rattle.http_client.specs.declared.refusal.ReplyError.TheVariants.{Bad, Memory}
use Rattle.http_client.specs.Replies.{IsReply, Reply}

-- the buffered bytes are a complete reply, and the buffer is emptied; or they stay
abbrev pub GivesReply : Gathered → Gathered → Option Reply → Type 0
GivesReply old new None = (new ≡ old) × (is_whole old.phase ≡ false)
GivesReply old new (Some reply) = IsIdle new × (is_whole old.phase ≡ true) × IsReply old.message reply

-- the buffered bytes and `piece` begin with refused bytes, and `at` counts all bytes up to their end
pub record Behind (taken : ℕ) (old : Gathered) (piece : List ℕ) (at : ℕ) : Type 0 where
  pub front : List ℕ
  pub more : List ℕ
  pub cause : HeadError
  pub split : kept old ++ piece ≡ front ++ more
  pub refused : IsRefused kind.Reply front cause
  pub counted : at + length more ≡ taken + length piece

-- the reply stays incomplete, and all of `piece` was taken; or it is complete; or it is refused
abbrev pub Gathers : ℕ → Gathered → List ℕ → Gathered → Result (ℕ × Option Reply) ReplyError → Type 0
Gathers taken old piece new (Ok (n, None)) =
    (n ≡ length piece) × (kept new ≡ kept old ++ piece) × IsAt new × (is_whole new.phase ≡ false) × (piece ≢ [] → 0 < n)
Gathers taken old piece new (Ok (n, Some reply)) =
    (n ≤ length piece) × IsIdle new × (piece ≢ [] → 0 < n)
    × ((m : Message) × (kept old ++ take n piece ≡ print_message m) × IsReply m reply)
Gathers taken old piece new (Err (Bad at)) = Behind taken old piece at
Gathers taken old piece new (Err Memory) = Unit {0}
