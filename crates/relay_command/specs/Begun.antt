-- A share that was put under its lock, or was not.
use Rattle.std.specs.Prelude.{◌≡◌, ◌⊎◌, ◌+◌, ℕ, List, [], ◌++◌}
use Rattle.command_core.specs.Answers.{Writes}
use Rattle.command_core.specs.Endings.{IsCut, IsWritten}
use Rattle.command_core.specs.Faults.{memory_line}
use Rattle.command_core.specs.Seen.{OutputSeen}
use Rattle.share_lock.specs.Known.{fresh}
use Rattle.share_lock.specs.Passes.{IsReady, known, lock_id, passes_of}
use Rattle.share_crew.specs.Begun.{HasRoom}
use Rattle.share_crew.specs.declared.opening.LockedShare.{LockedShare}
use Rattle.relay_command.specs.Lines.{relaying_line}
use Rattle.relay_command.specs.Terms.{settings_of}
use Rattle.relay_command.specs.declared.terms.Relaying.{Relaying}

-- an empty share is under a lock, for the first handle, those of workers and that of the relay, and its line was
-- written
pub record HasBegun {D : Type 0} (relaying : Relaying) (output output' : OutputSeen) (begun : LockedShare D) : Type 0 where
  pub ready : IsReady (lock_id begun.lock) begun.first
  pub passes : passes_of begun.lock ≡ relaying.workers + 2
  pub pass : known begun.first ≡ fresh 0 (settings_of relaying) []
  pub room : HasRoom relaying.workers begun.room
  pub written : IsWritten output output' (relaying_line relaying.name)

-- an allocation failed before the line, or the output failed in it, or an allocation failed after it
abbrev pub NotAnnounced : (line : List ℕ) → OutputSeen → OutputSeen → ℕ → Type 0
NotAnnounced line before after status =
    Writes 9 memory_line before after status ⊎ ((status ≡ 5) × IsCut before after line) ⊎ Writes 9 (line ++ memory_line) before after status
