-- The specification of a command.
use Rattle.std.specs.Prelude.{◌≡◌, ℕ, List, []}
use Rattle.command_core.specs.declared.fault.Fault.{Fault}
use Rattle.command_core.specs.declared.outcome.Outcome.{Outcome}
use Rattle.command_core.specs.Seen.{InputSeen, Seen, ShareSeen, IsUnread, Run, no_share}
use Rattle.command_core.specs.Causes.{Cause, StopsBy}

pub record Meaning : Type 1 where
  -- its own errors, each with its line, status and cause
  pub fault : Type 0
  pub line : fault → List ℕ
  pub status : fault → ℕ
  pub cause : fault → Cause
  -- bytes of the input after which it reads further: nothing in them is refused
  pub reads_on : List ℕ → Type 0
  -- an input with which it succeeds
  pub gives : List ℕ → Type 0
  -- it succeeds, with this share and this output
  pub is_done : Seen → Seen → ShareSeen → List ℕ → Type 0
  -- what it had to write if the output failed
  pub is_begun : Seen → Seen → ShareSeen → List ℕ → Type 0
  -- what it has written before the line of an error
  pub is_front : Seen → Seen → Fault fault → List ℕ → Type 0
  -- what an error leaves of a share
  pub leaves : Seen → Seen → Fault fault → ShareSeen → Type 0
  -- what it may have read when an allocation fails
  pub may_want : Seen → Seen → Type 0
  -- what is true of every run, however it ends
  pub always : Run → Outcome → Type 0

-- what has to hold if a command ends with `fault`
abbrev pub IsCause : (m : Meaning) → Seen → Seen → Fault m.fault → Type 0
IsCause m before after fault = StopsBy m.cause m.reads_on (m.may_want before after) before.input after.input fault

-- fields of a command that writes once, at its end
abbrev pub writes_nothing_before : {F : Type 0} → Seen → Seen → Fault F → List ℕ → Type 0
writes_nothing_before before after fault front = front ≡ []

-- .. that opens no share
abbrev pub leaves_no_share : {F : Type 0} → Seen → Seen → Fault F → ShareSeen → Type 0
leaves_no_share before after fault share = share ≡ no_share

-- .. of whose runs nothing more is said
abbrev pub says_no_more : Run → Outcome → Type 0
says_no_more told outcome = Unit {0}

-- .. that reads its input
abbrev pub may_read : Seen → Seen → Type 0
may_read before after = Unit {0}

-- .. that does not
abbrev pub may_not_read : Seen → Seen → Type 0
may_not_read before after = IsUnread before.input after.input
