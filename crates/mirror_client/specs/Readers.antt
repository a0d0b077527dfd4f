-- A reader inside a response.
use Rattle.std.specs.Prelude.{◌≡◌, ◌≤◌, ℕ, ◌+◌, [], ◌++◌, length, take, drop, Option, Some, None}
use Rattle.http_heads.specs.Messages.{Message, print_message}
use Rattle.http_client.specs.declared.refusal.ReplyError.{ReplyError}
use Rattle.http_client.specs.declared.refusal.ReplyError.TheVariants as reply
use Rattle.http_client.specs.Replies.{HasRead, IsReply, Reader, Reply}
use Rattle.mirror_client.specs.declared.refusal.FollowError.{FollowError}
use Rattle.mirror_client.specs.declared.refusal.FollowError.TheVariants.{BadReply, Memory}
use Rattle.mirror_client.specs.Points.{ReadAhead}

-- It was fed the bytes that it keeps, which are not a complete response.
pub record IsBegun (r : Reader) : Type 0 where
  pub ready : r.ready ≡ None
  pub fine : r.error ≡ None
  pub read : HasRead r.kept [] r

-- It consumed all bytes that were read ahead, or has a response from the first of them.
pub record GoesOn (old new : Reader) (before now : ReadAhead) : Type 0 where
  pub begun : IsBegun new
  pub kept : new.kept ≡ old.kept ++ before.unused
  pub left : now ≡ record before { unused = [] }

pub record ComesWhole (old : Reader) (before now : ReadAhead) (answer : Reply) : Type 0 where
  pub message : Message
  pub is : IsReply message answer
  pub count : ℕ
  pub within : count ≤ length before.unused
  pub spelled : old.kept ++ take count before.unused ≡ print_message message
  pub left : now ≡ record { unused = drop count before.unused; used = before.used + length (print_message message) }
  pub few : length (print_message message) ≤ 2147483648

abbrev pub Advances : Reader → Reader → ReadAhead → ReadAhead → Option Reply → Type 0
Advances old new before now None = GoesOn old new before now
Advances old new before now (Some answer) = ComesWhole old before now answer

-- The error for a malformed response after `used` bytes.
abbrev pub refused_by : ℕ → ReplyError → FollowError
refused_by used (reply.Bad at) = BadReply (used + at)
refused_by used reply.Memory = Memory
