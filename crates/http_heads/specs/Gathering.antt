-- A message that is gathered from bytes as they come. The bytes since the last complete one are buffered, its head
-- and its body apart.
use Rattle.std.specs.Prelude.{◌≡◌, ◌≢◌, ◌<◌, ◌≤◌, ℕ, List, [], ◌++◌, length, take, Bool, true, false, nat_lt, if◌then◌else◌, Some, Result, Ok, Err}
use Rattle.http_heads.specs.declared.gathering.Phase.{Phase}
use Rattle.http_heads.specs.declared.gathering.Phase.TheVariants.{Frame, Body, Whole}
use Rattle.http_heads.specs.declared.kind.Kind.{Kind}
use Rattle.http_heads.specs.declared.kind.Kind.TheVariants.{Request, Reply}
use Rattle.http_heads.specs.declared.refusal.HeadError.{HeadError}
use Rattle.http_heads.specs.declared.refusal.HeadError.TheVariants.{Memory}
use Rattle.http_heads.specs.Limits.{body_limit, head_limit, reply_limit}
use Rattle.http_heads.specs.Messages.{HasHead, IsMessage, IsRefused, Message, print_message}
use Rattle.http_heads.specs.Scanning.{start, after}

-- the kind of messages, the buffered part of one, and how much of it has come
pub record Gathered : Type 0 where
  pub kind : Kind
  pub message : Message
  pub phase : Phase

abbrev pub kept : Gathered → List ℕ
kept g = print_message g.message

abbrev pub is_whole : Phase → Bool
is_whole (Frame scan) = false
is_whole (Body told) = false
is_whole Whole = true

-- nothing is buffered
abbrev pub IsIdle : Gathered → Type 0
IsIdle g = (g.message ≡ record { head = []; body = [] }) × (g.phase ≡ Frame start)

-- the phase says what is buffered
abbrev pub Stands : Kind → Message → Phase → Type 0
Stands kind m (Frame scan) = (after start m.head ≡ Some scan) × (length m.head < head_limit) × (m.body ≡ [])
Stands kind m (Body told) = HasHead kind m.head told × (length m.body < told)
Stands kind m Whole = IsMessage kind m

abbrev pub IsAt : Gathered → Type 0
IsAt g = Stands g.kind g.message g.phase

-- `n` bytes of `piece` were added to the buffer: all of them, unless the message is complete
pub record TakesSome (old : Gathered) (piece : List ℕ) (new : Gathered) (n : ℕ) : Type 0 where
  pub within : n ≤ length piece
  pub kept : kept new ≡ kept old ++ take n piece
  pub stands : IsAt new
  pub all : n < length piece → is_whole new.phase ≡ true

-- the buffered bytes are refused; the rest of `piece` may follow them
pub record IsStopped (old : Gathered) (piece : List ℕ) (new : Gathered) (e : HeadError) : Type 0 where
  pub more : List ℕ
  pub spelled : kept old ++ piece ≡ kept new ++ more
  pub longer : length (kept old) ≤ length (kept new)
  pub refused : IsRefused old.kind (kept new) e

abbrev pub Takes : Gathered → List ℕ → Gathered → Result ℕ HeadError → Type 0
Takes old piece new (Ok n) = TakesSome old piece new n
Takes old piece new (Err e) = e ≢ Memory → IsStopped old piece new e

-- the phase after `len` bytes of a body
abbrev pub phase_behind : ℕ → ℕ → Phase
phase_behind told len = if nat_lt len told then Body told else Whole

-- the most bytes of a body
abbrev pub limit_of : Kind → ℕ
limit_of Request = body_limit
limit_of Reply = reply_limit
