-- How reading a whole input, up to a limit, changes the source and its error counter.
use Rattle.std.specs.Prelude.{◌≡◌, ℕ, ◌≤◌, List, length, Ok, Err, Option, Result}
use Rattle.std.specs.Io.KnownBytes.{Consumes}
use Rattle.outside_net.specs.declared.reading.ReadError.{ReadError}
use Rattle.outside_net.specs.declared.reading.ReadError.TheVariants.{Failed, TooLong, Memory}
use Rattle.outside_net.specs.Counts.{Rose}

-- At most the first `most` of the bytes that were left were read.
abbrev pub ConsumesUpTo : ℕ → Option (List ℕ) → Option (List ℕ) → Type 0
ConsumesUpTo most before now = (bytes : List ℕ) × Consumes before now bytes × (length bytes ≤ most)

-- The counter increased if the result is `Failed`, and is unchanged otherwise.
abbrev pub CountsReadFaults : {T : Type 0} → ℕ → ℕ → Result T ReadError → Type 0
CountsReadFaults before now (Ok x) = now ≡ before
CountsReadFaults before now (Err Failed) = Rose before now
CountsReadFaults before now (Err TooLong) = now ≡ before
CountsReadFaults before now (Err Memory) = now ≡ before
