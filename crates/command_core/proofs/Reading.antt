-- How much was read of an input that is read whole, up to a limit.
use Rattle.std.proofs.Common.{◌≡◌, ◌+◌, ◌≤◌, ◌++◌, ℕ, List, [], length, take, drop, Option, Some, None, IfSome, sym, ap, subst, ◌∙◌, arith, append-nil}
use Rattle.std.specs.Io.KnownBytes.{Consumes, IsAtEnd}
use Rattle.std.proofs.lemmas.List.{take-append-drop, length-take, length-drop}
use Rattle.outside_net.specs.Counts.{Rose}
use Rattle.outside_net.specs.Reading.{ConsumesUpTo}
use Rattle.command_core.specs.Seen.{InputSeen}
use Rattle.command_core.specs.Causes.{HasReadOn, IsReadFault}

-- the last read found the end, so all bytes were read before it
pub all_read_on : (reads_on : List ℕ → Type 0) (before after : InputSeen) (bytes : List ℕ) → Consumes before.left after.left bytes → reads_on bytes
    → HasReadOn reads_on before after
all_read_on reads_on before after bytes read on =
    record { front = bytes; last = []; read = subst (Consumes before.left after.left) (sym (append-nil bytes)) read; short = omega arith; on = on }

-- the last read passed the limit
pub past_limit : (reads_on : List ℕ → Type 0) (before after : InputSeen) (limit : ℕ) → ((bytes : List ℕ) → length bytes ≤ limit → reads_on bytes)
    → ConsumesUpTo (limit + 32768) before.left after.left → HasReadOn reads_on before after
past_limit reads_on before after limit on some =
    let bytes = some.0 in
    record {
      front = take limit bytes;
      last = drop limit bytes;
      read = subst (Consumes before.left after.left) (sym (take-append-drop limit bytes)) some.1;
      short = let few = some.2 in omega (arith, length-drop limit bytes);
      on = on (take limit bytes) (omega (arith, length-take limit bytes));
    }

-- a read failed within the limit
pub failed_within : (reads_on : List ℕ → Type 0) (before after : InputSeen) (limit : ℕ) → ((bytes : List ℕ) → length bytes ≤ limit → reads_on bytes)
    → ConsumesUpTo limit before.left after.left → Rose before.faults after.faults → IsReadFault reads_on before after
failed_within reads_on before after limit on some rose = record { bytes = some.0; read = some.1; on = on some.0 some.2; rose = rose }

-- what was read up to the end is the whole input
all_read : (input bytes : List ℕ) (after : Option (List ℕ)) → Consumes (Some input) after bytes → IsAtEnd after → input ≡ bytes
all_read input bytes None read end = absurd read
all_read input bytes (Some rest) read end = read ∙ ap (λ l. bytes ++ l) end ∙ append-nil bytes

pub read_whole : (input bytes : List ℕ) (before after : Option (List ℕ)) → before ≡ Some input → Consumes before after bytes → IsAtEnd after → input ≡ bytes
read_whole input bytes before after told read end = all_read input bytes after (subst (λ left. Consumes left after bytes) told read) end

-- what holds of the bytes that were read holds of the input, if that is known
pub of_input : (P : List ℕ → Type 0) (left after : Option (List ℕ)) (bytes : List ℕ) → Consumes left after bytes → IsAtEnd after → P bytes → IfSome left P
of_input P None after bytes read end h = tt
of_input P (Some input) after bytes read end h = subst P (sym (all_read input bytes after read end)) h

-- what holds of all inputs that begin with these bytes holds of the input, if that is known
pub of_front : (P : List ℕ → Type 0) (left after : Option (List ℕ)) (bytes : List ℕ) → Consumes left after bytes → ((rest : List ℕ) → P (bytes ++ rest)) → IfSome left P
of_front P None after bytes read h = tt
of_front P (Some input) None bytes read h = absurd read
of_front P (Some input) (Some rest) bytes read h = subst P (sym read) (h rest)
