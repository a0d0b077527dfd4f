-- A run ends as its command's specification says, by what was written.
use Rattle.std.proofs.Common.{◌≡◌, ◌⊎◌, ◌++◌, ℕ, List, [], None, Result, Ok, Err, Vec, Global, IfOk, IfErr, MatchResult, refl, sym, subst, inl, inr}
use Rattle.command_core.specs.declared.fault.Fault.{Fault}
use Rattle.command_core.specs.declared.fault.Fault.TheVariants.{Memory}
use Rattle.command_core.specs.declared.outcome.Outcome.{Outcome}
use Rattle.command_core.specs.Answers.{Writes, WritesDone, WritesError, WritesMemory}
use Rattle.command_core.specs.Endings.{Done, OutputCut, Refused, LineCut, IsWritten}
use Rattle.command_core.specs.Faults.{fault_line, fault_status, memory_line}
use Rattle.command_core.specs.Seen.{OutputSeen, Seen, Run}
use Rattle.command_core.proofs.Appending.{none_written, written_more}
use Rattle.link_commands.specs.Linked.{IsUntouched}
use Rattle.link_commands.specs.Meanings.{IsCutBehind, IsLinkAnswered, LinkEnds, LinkMeaning}

-- what every end of a command has to meet
abbrev pub Promised : LinkMeaning → Type 0
Promised m = (told : Run) (status : ℕ) → LinkEnds m told status → m.promises told status

answered : (m : LinkMeaning) → Promised m → (told : Run) (outcome : Outcome) → outcome.history ≡ None → LinkEnds m told outcome.status → IsLinkAnswered m told outcome
answered m owes told outcome unopened ends = record { unopened = unopened; ends = ends; promised = owes told outcome.status ends }

-- after what was written before, the rest of the output was written, or the output failed
pub by_output : (m : LinkMeaning) → Promised m → (told : Run) (mid : OutputSeen) (outcome : Outcome) (front rest : List ℕ) → m.is_done told.before told.after (front ++ rest)
    → m.is_begun told.before told.after front rest → IsWritten told.output_before mid front → WritesDone None rest mid told.output_after outcome → IsLinkAnswered m told outcome
by_output m owes told mid outcome front rest done begun w t = at_end t.told
  where
    at_end : Writes 0 rest mid told.output_after outcome.status → IsLinkAnswered m told outcome
    at_end (inl x) = answered m owes told outcome t.history (Done (front ++ rest), x.0, (done, written_more told.output_before mid told.output_after front rest w x.1))
    at_end (inr x) =
        let cut : IsCutBehind told.output_before told.output_after front rest = record { at_cut = mid; written = w; cut = x.1 } in
        answered m owes told outcome t.history (OutputCut (front ++ rest), x.0, record { front = front; last = rest; is = refl; begun = begun; cut = cut })

-- the output failed
pub by_cut : (m : LinkMeaning) → Promised m → (told : Run) (outcome : Outcome) (front last : List ℕ) → m.is_begun told.before told.after front last
    → outcome.history ≡ None → outcome.status ≡ 5 → IsCutBehind told.output_before told.output_after front last → IsLinkAnswered m told outcome
by_cut m owes told outcome front last begun unopened s w =
    answered m owes told outcome unopened (OutputCut (front ++ last), s, record { front = front; last = last; is = refl; begun = begun; cut = w })

-- the line of an error ends a run, after what was written before
by_line : (m : LinkMeaning) → Promised m → (told : Run) (mid : OutputSeen) (outcome : Outcome) (front : List ℕ) (fault : Fault m.fault) → m.stops told.before told.after fault front
    → IsWritten told.output_before mid front → outcome.history ≡ None → Writes (fault_status m.status fault) (fault_line m.line fault) mid told.output_after outcome.status
    → IsLinkAnswered m told outcome
by_line m owes told mid outcome front fault stops w unopened (inl t) =
    answered m owes told outcome unopened
    (Refused front fault, t.0, (stops, written_more told.output_before mid told.output_after front (fault_line m.line fault) w t.1))
by_line m owes told mid outcome front fault stops w unopened (inr t) =
    answered m owes told outcome unopened
    (LineCut front fault, t.0, (stops, record { at_cut = mid; written = w; cut = t.1 }))

-- the line of out of memory ends a run
pub by_memory : (m : LinkMeaning) → Promised m → (told : Run) (mid : OutputSeen) (outcome : Outcome) (front : List ℕ) → m.stops told.before told.after Memory front
    → IsWritten told.output_before mid front → WritesMemory None mid told.output_after outcome → IsLinkAnswered m told outcome
by_memory m owes told mid outcome front stops w t = by_line m owes told mid outcome front Memory stops w t.history t.told

-- before anything was written
pub by_idle : (m : LinkMeaning) → Promised m → (told : Run) (outcome : Outcome) → m.stops told.before told.after Memory []
    → WritesMemory None told.output_before told.output_after outcome → IsLinkAnswered m told outcome
by_idle m owes told outcome stops t = by_memory m owes told told.output_before outcome [] stops (none_written told.output_before) t

pub untouched : (before after : Seen) → after ≡ before → IsUntouched before after
untouched before after same = subst (λ (s : Seen). IsUntouched before s) (sym same) (record { unread = record { left = refl; faults = refl }; net = refl })

-- an error ends the command, and an allocation for its line may fail
pub by_fault : (m : LinkMeaning) → Promised m → (told : Run) (mid : OutputSeen) (outcome : Outcome) (front : List ℕ) (fault : Fault m.fault)
    → m.stops told.before told.after fault front → m.stops told.before told.after Memory front → IsWritten told.output_before mid front
    → WritesError m.line m.status fault mid told.output_after outcome → IsLinkAnswered m told outcome
by_fault m owes told mid outcome front fault stops wants w t = at_line t.told
  where
    at_line : Writes (fault_status m.status fault) (fault_line m.line fault) mid told.output_after outcome.status ⊎ Writes 9 memory_line mid told.output_after outcome.status
        → IsLinkAnswered m told outcome
    at_line (inl line) = by_line m owes told mid outcome front fault stops w t.unopened line
    at_line (inr line) = by_line m owes told mid outcome front Memory wants w t.unopened line

-- a command that writes once, at its end
pub by_answer : (m : LinkMeaning) → Promised m → (told : Run) (outcome : Outcome) (answer : Result (Vec ℕ Global) (Fault m.fault))
    → IfOk answer (λ bytes. m.is_done told.before told.after bytes.items × m.is_begun told.before told.after [] bytes.items)
    → IfErr answer (λ fault. m.stops told.before told.after fault [] × m.stops told.before told.after Memory [])
    → MatchResult answer (λ bytes. WritesDone None bytes.items told.output_before told.output_after outcome)
    (λ fault. WritesError m.line m.status fault told.output_before told.output_after outcome)
    → IsLinkAnswered m told outcome
by_answer m owes told outcome (Ok bytes) done stops t =
    by_output m owes told told.output_before outcome [] bytes.items done.0 done.1 (none_written told.output_before) t
by_answer m owes told outcome (Err fault) done stops t =
    by_fault m owes told told.output_before outcome [] fault stops.0 stops.1 (none_written told.output_before) t
