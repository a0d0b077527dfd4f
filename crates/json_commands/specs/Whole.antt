-- Commands that read their whole input, up to a limit, and then write what its bytes give.
use Rattle.std.specs.Prelude.{◌≡◌, ◌<◌, ◌≤◌, ℕ, List, length}
use Rattle.std.specs.Io.KnownBytes.{Consumes, IsAtEnd}
use Rattle.command_core.specs.Seen.{InputSeen, ShareSeen, no_share}

-- the input may have at most 64 MiB
abbrev pub json_limit : ℕ
json_limit = 67108864

abbrev pub IsWithin : List ℕ → Type 0
IsWithin bytes = length bytes ≤ json_limit

abbrev pub IsTooLong : List ℕ → Type 0
IsTooLong input = json_limit < length input

-- the input was read to its end without a read error, and within the limit its bytes give the output
pub record IsGiven (gives : List ℕ → List ℕ → Type 0) (before after : InputSeen) (share : ShareSeen) (output : List ℕ) : Type 0 where
  pub bytes : List ℕ
  pub read : Consumes before.left after.left bytes
  pub end : IsAtEnd after.left
  pub faultless : after.faults ≡ before.faults
  pub within : IsWithin bytes
  pub unopened : share ≡ no_share
  pub given : gives bytes output
