-- Why `replay` stops before it opens a share.
use Rattle.std.proofs.Common.{◌≡◌, ◌+◌, ◌<◌, ◌≤◌, ℕ, List, Global, Vec, length, IfSome, Err, refl}
use Rattle.std.specs.Io.KnownBytes.{Consumes, IsAtEnd}
use Rattle.outside_net.specs.Reading.{ConsumesUpTo, CountsReadFaults}
use Rattle.outside_net.specs.declared.reading.ReadError.{ReadError}
use Rattle.outside_net.specs.declared.reading.ReadError.TheVariants as reads
use Rattle.command_core.specs.Causes.{StopsBy}
use Rattle.command_core.specs.declared.fault.Fault.TheVariants.{Own}
use Rattle.command_core.specs.Seen.{InputSeen}
use Rattle.command_core.proofs.Reading.{all_read_on, failed_within, of_input, past_limit}
use Rattle.command_core.specs.Faults.{read_fault}
use Rattle.share_replay.specs.Scripts.{script_of}
use Rattle.share_commands.specs.ReadScript.{script_limit}
use Rattle.share_commands.specs.ReplayShare.{IsBad, ReplayReadsOn, replay_cause}
use Rattle.share_commands.specs.declared.replay.ReplayFault.TheVariants.{Line, TooLong}

pub unread : (before after : InputSeen) (e : ReadError) → (e ≡ reads.Failed → ConsumesUpTo script_limit before.left after.left)
    → ConsumesUpTo (script_limit + 32768) before.left after.left → (e ≡ reads.TooLong → IfSome before.left (λ input. script_limit < length input))
    → CountsReadFaults {T = Vec ℕ Global} before.faults after.faults (Err e)
    → StopsBy replay_cause ReplayReadsOn (Unit {0}) before after (read_fault TooLong e)
unread before after reads.Failed failed some long count =
    failed_within ReplayReadsOn before after script_limit (λ bytes within. within) (failed refl) count
unread before after reads.TooLong failed some long count = record {
  words = tt;
  said = long refl;
  faultless = count;
  read_on = past_limit ReplayReadsOn before after script_limit (λ bytes within. within) some;
}
unread before after reads.Memory failed some long count = tt

-- the input is not a script
pub no_script : (before after : InputSeen) (bytes : List ℕ) (line : ℕ) → Consumes before.left after.left bytes → IsAtEnd after.left → length bytes ≤ script_limit
    → after.faults ≡ before.faults → script_of bytes ≡ Err line → StopsBy replay_cause ReplayReadsOn (Unit {0}) before after (Own (Line line))
no_script before after bytes line read end within faultless bad = record {
  words = tt;
  said = of_input (IsBad line) before.left after.left bytes read end (record { within = within; bad = bad });
  faultless = faultless;
  read_on = all_read_on ReplayReadsOn before after bytes read within;
}
