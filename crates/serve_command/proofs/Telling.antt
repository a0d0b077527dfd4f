-- What is written at the end, part by part.
use Rattle.std.specs.declared.alloc.AllocError.{AllocError}
use Rattle.std.proofs.Common.{Vec, Global, MatchResult, ◌≡◌, ◌++◌, ℕ, List, Ok, Err, Result, IfOk, refl, subst, inl, inr}
use Rattle.command_core.specs.Seen.{OutputSeen}
use Rattle.command_core.specs.Endings.{IsCut}
use Rattle.command_core.specs.Answers.{Writes}
use Rattle.share_crew.proofs.Telling.{cut_wider}
use Rattle.share_crew.specs.declared.verdict.Verdict.{Verdict}
use Rattle.serve_command.specs.Runs.{WritesEnd}
use Rattle.share_crew.specs.Verdicts.{verdict_line, verdict_status, with_memory}

-- the output failed in the line
pub told_cut : (before after : OutputSeen) (line more : List ℕ) (wanted : ℕ) → IsCut before after line → Writes wanted (line ++ more) before after 5
told_cut before after line more wanted c = inr (refl, cut_wider before after line more c)

-- what is written if there is a line, and if there is not
abbrev pub TellsLine : Verdict → OutputSeen → OutputSeen → ℕ → Result (Vec ℕ Global) AllocError → Type 0
TellsLine verdict before after status line =
    MatchResult line (λ bytes. Writes (verdict_status verdict) (bytes.items ++ verdict_line verdict) before after status)
    (λ _. Writes (verdict_status (with_memory verdict)) (verdict_line (with_memory verdict)) before after status)

-- the end was written, with its line or without, because an allocation failed
pub told_end : (line : Result (Vec ℕ Global) AllocError) (ended : List ℕ) (verdict : Verdict) (before after : OutputSeen) (status : ℕ) → IfOk line (λ bytes. bytes.items ≡ ended)
    → TellsLine verdict before after status line → WritesEnd ended verdict before after status
told_end (Ok bytes) ended verdict before after status is h = inl (subst (λ l. Writes (verdict_status verdict) (l ++ verdict_line verdict) before after status) is h)
told_end (Err error) ended verdict before after status is h = inr h
