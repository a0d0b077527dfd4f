-- When a command may end with an error, and how much of the input it has read by then.
use Rattle.std.specs.Prelude.{◌≡◌, ◌≤◌, ◌++◌, ℕ, List, length, IfSome}
use Rattle.std.specs.Io.KnownBytes.{Consumes}
use Rattle.outside_net.specs.Counts.{Rose}
use Rattle.command_core.specs.declared.fault.Fault.{Fault}
use Rattle.command_core.specs.declared.fault.Fault.TheVariants.{Own, Read, Memory}
use Rattle.command_core.specs.Seen.{InputSeen, IsUnread}

-- one read returns at most 64 KiB
abbrev pub piece_limit : ℕ
piece_limit = 65536

-- what has to hold for one of a command's own errors
pub data Cause : Type 1 where
  -- the arguments have it: it is found before the input is read
  OfWords : Type 0 → Cause
  -- the arguments have it, and the input too, if that is known
  OfInput : Type 0 → (List ℕ → Type 0) → Cause

-- arguments and input have the cause
abbrev pub HasCause : Cause → List ℕ → Type 0
HasCause (OfWords words) input = words
HasCause (OfInput words said) input = words × said input

-- what was read, except for a last part of at most one read, is such that the command reads further
pub record HasReadOn (reads_on : List ℕ → Type 0) (before after : InputSeen) : Type 0 where
  pub front : List ℕ
  pub last : List ℕ
  pub read : Consumes before.left after.left (front ++ last)
  pub short : length last ≤ piece_limit
  pub on : reads_on front

-- an error found in what was read; no read failed
pub record IsFaultOf (reads_on : List ℕ → Type 0) (of_words : Type 0) (of_input : List ℕ → Type 0) (before after : InputSeen) : Type 0 where
  pub words : of_words
  pub said : IfSome before.left of_input
  pub faultless : after.faults ≡ before.faults
  pub read_on : HasReadOn reads_on before after

-- a read failed after bytes at which the command reads further
pub record IsReadFault (reads_on : List ℕ → Type 0) (before after : InputSeen) : Type 0 where
  pub bytes : List ℕ
  pub read : Consumes before.left after.left bytes
  pub on : reads_on bytes
  pub rose : Rose before.faults after.faults

abbrev pub StopsAtCause : (reads_on : List ℕ → Type 0) → Cause → InputSeen → InputSeen → Type 0
StopsAtCause reads_on (OfWords words) before after = words × IsUnread before after
StopsAtCause reads_on (OfInput words said) before after = IsFaultOf reads_on words said before after

-- how a command stops with an error; `cause` has those of its own errors, and `wants` says when memory may run out
abbrev pub StopsBy : {F : Type 0} → (F → Cause) → (reads_on : List ℕ → Type 0) → Type 0 → InputSeen → InputSeen → Fault F → Type 0
StopsBy cause reads_on wants before after (Own own) = StopsAtCause reads_on (cause own) before after
StopsBy cause reads_on wants before after Read = IsReadFault reads_on before after
StopsBy cause reads_on wants before after Memory = wants
