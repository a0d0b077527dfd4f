-- What status 0 says of the workers.
use Rattle.std.proofs.Common.{◌≡◌, ℕ, List, map, refl, sym, ◌∙◌, inl, inr, arith}
use Rattle.std.specs.List.{AllByRecursion}
use Rattle.item_model.specs.declared.changes.Entry.{Entry}
use Rattle.share_replies.specs.Settings.{Settings}
use Rattle.command_core.specs.Seen.{OutputSeen}
use Rattle.share_crew.specs.declared.verdict.Verdict.{Verdict}
use Rattle.share_crew.specs.declared.verdict.Verdict.TheVariants.{Done, NetworkFailed, FileFailed, OutOfMemory, Exhausted}
use Rattle.share_crew.specs.WorkerRuns.{WorkerRun, IsPart, IsWhole}
use Rattle.share_crew.specs.Verdicts.{verdict_of, verdict_status, with_memory}
use Rattle.share_crew.proofs.Ending.{wholes_by}
use Rattle.serve_command.specs.Runs.{WritesEnd}

-- only the verdict `Done` has status 0
done_by : (verdict : Verdict) → 0 ≡ verdict_status verdict → verdict ≡ Done
done_by Done is = refl
done_by NetworkFailed is = absurd (let e : 0 ≡ 6 = is in omega arith)
done_by FileFailed is = absurd (let e : 0 ≡ 10 = is in omega arith)
done_by OutOfMemory is = absurd (let e : 0 ≡ 9 = is in omega arith)
done_by Exhausted is = absurd (let e : 0 ≡ 8 = is in omega arith)

not_done : (verdict : Verdict) → 0 ≡ verdict_status (with_memory verdict) → ⊥
not_done Done is = let e : 0 ≡ 9 = is in omega arith
not_done NetworkFailed is = let e : 0 ≡ 6 = is in omega arith
not_done FileFailed is = let e : 0 ≡ 10 = is in omega arith
not_done OutOfMemory is = let e : 0 ≡ 9 = is in omega arith
not_done Exhausted is = let e : 0 ≡ 9 = is in omega arith

pub done_from : (ended : List ℕ) (verdict : Verdict) (before after : OutputSeen) (status : ℕ) → status ≡ 0 → WritesEnd ended verdict before after status → verdict ≡ Done
done_from ended verdict before after status is (inl (inl h)) = done_by verdict (sym is ∙ h.0)
done_from ended verdict before after status is (inl (inr h)) = absurd (omega (arith, is, h.0))
done_from ended verdict before after status is (inr (inl h)) = absurd (not_done verdict (sym is ∙ h.0))
done_from ended verdict before after status is (inr (inr h)) = absurd (omega (arith, is, h.0))

-- then each worker served what came, or until the stop
pub whole_by : {settings : Settings} {opening : List Entry} (history : List Entry) (worker_runs : List (WorkerRun settings opening)) (ended : List ℕ) (verdict : Verdict) (before after : OutputSeen) (status : ℕ)
    → AllByRecursion (IsPart history) worker_runs → verdict ≡ verdict_of (map (λ (s : WorkerRun settings opening). s.end) worker_runs) → WritesEnd ended verdict before after status
    → status ≡ 0 → AllByRecursion (IsWhole history) worker_runs
whole_by history worker_runs ended verdict before after status parts is told success =
    wholes_by history worker_runs parts (sym is ∙ done_from ended verdict before after status success told)
