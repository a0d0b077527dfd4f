-- The bytes of a file while it is being made, and at the end.
use Rattle.std.specs.Prelude.{◌≢◌, ℕ, ◌≤◌, List, [], ◌∷◌, ◌++◌, length, get_or}
use Rattle.edit_file.specs.Standing.{opened, signature}

-- between one and ten bytes, and the first is not open
pub record IsBegun (bytes : List ℕ) : Type 0 where
  pub some : 1 ≤ length bytes
  pub few : length bytes ≤ 10
  pub closed : get_or bytes 0 0 ≢ opened

-- a finished file without batches
abbrev pub empty_file : List ℕ
empty_file = opened ∷ signature ++ 0 ∷ []
