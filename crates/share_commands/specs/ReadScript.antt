-- The script that the input of `replay` is read as.
use Rattle.std.specs.Prelude.{◌≡◌, ◌≤◌, ℕ, List, length, Ok}
use Rattle.std.specs.Io.KnownBytes.{Consumes, IsAtEnd}
use Rattle.share_replay.specs.Scripts.{script_of}
use Rattle.share_replay.specs.declared.delivery.Delivery.{Delivery}
use Rattle.command_core.specs.Seen.{InputSeen}

-- the input may have at most 64 MiB
abbrev pub script_limit : ℕ
script_limit = 67108864

-- the input, within its limit, is this script
pub record ReadsAs (lines : List Delivery) (input : List ℕ) : Type 0 where
  pub within : length input ≤ script_limit
  pub read : script_of input ≡ Ok lines

-- the input was read to its end, without an error, as this script
pub record IsRead (lines : List Delivery) (before after : InputSeen) : Type 0 where
  pub bytes : List ℕ
  pub read : Consumes before.left after.left bytes
  pub end : IsAtEnd after.left
  pub faultless : after.faults ≡ before.faults
  pub script : ReadsAs lines bytes
