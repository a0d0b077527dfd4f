-- The line that a user sees for an error of a command, and the status that the program ends with.
use Rattle.std.specs.Prelude.{ℕ, List, [], ◌∷◌, ◌++◌, codes}
use Rattle.outside_net.specs.declared.reading.ReadError.{ReadError}
use Rattle.outside_net.specs.declared.reading.ReadError.TheVariants as reads
use Rattle.command_core.specs.declared.fault.Fault.{Fault}
use Rattle.command_core.specs.declared.fault.Fault.TheVariants.{Own, Read, Memory}

abbrev pub memory_line : List ℕ
memory_line = codes "memory" ++ 10 ∷ []

-- `line` has the lines of the command's own errors
abbrev pub fault_line : {F : Type 0} → (F → List ℕ) → Fault F → List ℕ
fault_line line (Own own) = line own
fault_line line Read = codes "read failed" ++ 10 ∷ []
fault_line line Memory = memory_line

abbrev pub fault_status : {F : Type 0} → (F → ℕ) → Fault F → ℕ
fault_status status (Own own) = status own
fault_status status Read = 4
fault_status status Memory = 9

-- the error of a command whose input was not read to its end; `too_long` is the one of a long input
abbrev pub read_fault : {F : Type 0} → F → ReadError → Fault F
read_fault too_long reads.Failed = Read
read_fault too_long reads.TooLong = Own too_long
read_fault too_long reads.Memory = Memory
