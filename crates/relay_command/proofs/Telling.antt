-- What is written at the end, after a prefix.
use Rattle.std.specs.declared.alloc.AllocError.{AllocError}
use Rattle.std.proofs.Common.{Vec, Global, MatchResult, IfOk, ◌≡◌, ◌++◌, ℕ, List, [], Option, Some, None, Result, Ok, Err, refl, sym, subst, inl, inr, append-nil}
use Rattle.command_core.specs.declared.fault.Fault.{Fault}
use Rattle.command_core.specs.declared.fault.Fault.TheVariants.{Memory}
use Rattle.command_core.specs.Answers.{Writes}
use Rattle.command_core.specs.Endings.{IsCut, IsWritten}
use Rattle.command_core.specs.Faults.{fault_line, fault_status, memory_line}
use Rattle.command_core.specs.Seen.{OutputSeen}
use Rattle.share_crew.proofs.Telling.{cut_wider, told_behind}
use Rattle.relay_command.specs.Faults.{relay_line, relay_status, worse_of}
use Rattle.relay_command.specs.Runs.{WritesThenError, WritesEnd, WritesLastError}
use Rattle.relay_command.specs.declared.fault.RelayFault.{RelayFault}

-- the error's line was written after the prefix
pub ruled_behind : (start mid after : OutputSeen) (front : List ℕ) (fault : Option (Fault RelayFault)) (status : ℕ) → IsWritten start mid front
    → WritesThenError [] fault mid after status → WritesThenError front fault start after status
ruled_behind start mid after front None status w h =
    subst (λ (l : List ℕ). Writes 0 l start after status) (append-nil front) (told_behind start mid after front [] 0 status w h)
ruled_behind start mid after front (Some fault) status w (inl h) =
    inl (told_behind start mid after front (fault_line relay_line fault) (fault_status relay_status fault) status w h)
ruled_behind start mid after front (Some fault) status w (inr h) = inr (told_behind start mid after front memory_line 9 status w h)

-- the output failed in the lines
pub cut_in : (before after : OutputSeen) (lines : List ℕ) (fault : Option (Fault RelayFault)) → IsCut before after lines → WritesThenError lines fault before after 5
cut_in before after lines None c = inr (refl, c)
cut_in before after lines (Some fault) c = inl (inr (refl, cut_wider before after lines (fault_line relay_line fault) c))

-- what is written if there are lines, and if there are not
abbrev pub TellsLines : Option (Fault RelayFault) → OutputSeen → OutputSeen → ℕ → Result (Vec ℕ Global) AllocError → Type 0
TellsLines fault before after status lines =
    MatchResult lines (λ text. WritesThenError text.items fault before after status) (λ _. WritesLastError (worse_of fault (Some Memory)) before after status)

pub told_end : (lines : Result (Vec ℕ Global) AllocError) (all : List ℕ) (fault : Option (Fault RelayFault)) (before after : OutputSeen) (status : ℕ)
    → IfOk lines (λ text. text.items ≡ all) → TellsLines fault before after status lines → WritesEnd all fault before after status
told_end (Ok text) all fault before after status is h = inl (subst (λ l. WritesThenError l fault before after status) is h)
told_end (Err error) all fault before after status is h = inr h
