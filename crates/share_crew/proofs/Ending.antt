-- What the verdict `Done` says of workers.
use Rattle.std.proofs.Common.{◌≡◌, ◌||◌, ℕ, Bool, true, false, cond, List, [], ◌∷◌, ◌++◌, length, map, Option, None, Some, refl, sym, ap, ◌∙◌, inl, inr, arith, append-nil, length-append}
use Rattle.std.proofs.lemmas.Bool.{or_parts}
use Rattle.std.proofs.lemmas.List.Folds.{list_any-append}
use Rattle.std.specs.List.{AllByRecursion, list_any}
use Rattle.std.specs.Prelude.{nat_eq}
use Rattle.item_model.specs.declared.changes.Entry.{Entry}
use Rattle.share_history.specs.Sessions.{is_stop, is_stopped}
use Rattle.share_replies.specs.Settings.{Settings}
use Rattle.share_workers.specs.declared.worker.WorkerEnd.{WorkerEnd}
use Rattle.share_workers.specs.declared.worker.WorkerEnd.TheVariants as worker
use Rattle.share_workers.specs.Works.{Came, IsOver}
use Rattle.share_workers.specs.Ends.{EndsWorker}
use Rattle.share_crew.specs.declared.verdict.Verdict.TheVariants.{Done, NetworkFailed, FileFailed, OutOfMemory, Exhausted}
use Rattle.share_crew.specs.WorkerRuns.{WorkerRun, IsPart, IsWhole, AreAllInputs}
use Rattle.share_crew.specs.Verdicts.{end_number, has_end, verdict_of}

-- then no worker ended because its listener failed, an allocation failed, or it reached a limit
pub record NoneFailed (ends : List WorkerEnd) : Type 0 where
  pub network : has_end worker.AcceptFault ends ≡ false
  pub file : has_end worker.FileFault ends ≡ false
  pub memory : has_end worker.Memory ends ≡ false
  pub spent : has_end worker.Spent ends ≡ false

pub none_failed : (ends : List WorkerEnd) (network file memory spent : Bool) → has_end worker.AcceptFault ends ≡ network → has_end worker.FileFault ends ≡ file → has_end worker.Memory ends ≡ memory → has_end worker.Spent ends ≡ spent
    → cond network NetworkFailed (cond file FileFailed (cond memory OutOfMemory (cond spent Exhausted Done))) ≡ Done → NoneFailed ends
none_failed ends true file memory spent n f m s is = absurd (cc)
none_failed ends false true memory spent n f m s is = absurd (cc)
none_failed ends false false true spent n f m s is = absurd (cc)
none_failed ends false false false true n f m s is = absurd (cc)
none_failed ends false false false false n f m s is = record { network = n; file = f; memory = m; spent = s }

stopped_longer : (seen later history : List Entry) → history ≡ seen ++ later → is_stopped seen ≡ true → is_stopped history ≡ true
stopped_longer seen later history is stopped = ap is_stopped is ∙ (list_any-append is_stop seen later ∙ ap (λ (b : Bool). b || list_any is_stop later) stopped)

all_came : (to_come left : Option (List (List ℕ))) (inputs : List (List ℕ)) → IsOver to_come left → Came to_come left inputs → AreAllInputs to_come inputs
all_came None left inputs over came = tt
all_came (Some to_come) None inputs over came = absurd came
all_came (Some to_come) (Some rest) inputs over came = came ∙ (ap (λ l. inputs ++ l) (some_is rest [] over) ∙ append-nil inputs)
  where
    some_is : (xs ys : List (List ℕ)) → Some xs ≡ Some ys → xs ≡ ys
    some_is xs ys h = ap (λ (o : Option (List (List ℕ))). of o) h
      where
        of : Option (List (List ℕ)) → List (List ℕ)
        of None = []
        of (Some zs) = zs

module _ {settings : Settings} {opening : List Entry} where
  whole_as : (history : List Entry) (worker_run : WorkerRun settings opening) (end : WorkerEnd) → IsPart history worker_run
      → EndsWorker (record { settings = settings; number = worker_run.pass.number; taken_in = []; seen = opening; looks = []; is_over = false }) worker_run.pass worker_run.to_come worker_run.left worker_run.reports end
      → NoneFailed (end ∷ []) → IsWhole history worker_run
  whole_as history worker_run worker.Running part ends none = absurd ends
  whole_as history worker_run worker.Stopped part ends none =
      inr (
        (λ is. let count : length worker_run.reports ≡ 0 = ap length is in let more = ap length ends.0.are ∙ length-append ends.0.earlier (ends.0.last ∷ []) in omega (arith, count, more)),
        stopped_longer worker_run.pass.seen part.later history part.begins ends.1,
      )
  whole_as history worker_run worker.NoMoreLinks part ends none = inl (all_came worker_run.to_come worker_run.left worker_run.served.works.inputs ends.1 worker_run.served.works.came)
  whole_as history worker_run worker.Spent part ends none = absurd (let h = none.spent in cc)
  whole_as history worker_run worker.AcceptFault part ends none = absurd (let h = none.network in cc)
  whole_as history worker_run worker.Memory part ends none = absurd (let h = none.memory in cc)
  whole_as history worker_run worker.FileFault part ends none = absurd (let h = none.file in cc)

  wholes : (history : List Entry) (worker_runs : List (WorkerRun settings opening)) → AllByRecursion (IsPart history) worker_runs → NoneFailed (map (λ (s : WorkerRun settings opening). s.end) worker_runs)
      → AllByRecursion (IsWhole history) worker_runs
  wholes history [] parts none = tt
  wholes history (worker_run ∷ worker_runs) parts none =
      let ends = map (λ (s : WorkerRun settings opening). s.end) worker_runs in
      let first : (end : WorkerEnd) → has_end end (worker_run.end ∷ ends) ≡ false → has_end end (worker_run.end ∷ []) ≡ false =
      λ end is. ap (λ (b : Bool). b || false) ((or_parts (nat_eq (end_number worker_run.end) (end_number end)) (has_end end ends) is).0) in
      let rest : (end : WorkerEnd) → has_end end (worker_run.end ∷ ends) ≡ false → has_end end ends ≡ false =
      λ end is. (or_parts (nat_eq (end_number worker_run.end) (end_number end)) (has_end end ends) is).1 in (
        whole_as history worker_run worker_run.end parts.0 worker_run.served.ends
            (record { network = first worker.AcceptFault none.network; file = first worker.FileFault none.file; memory = first worker.Memory none.memory; spent = first worker.Spent none.spent }),
        wholes history worker_runs parts.1
            (record { network = rest worker.AcceptFault none.network; file = rest worker.FileFault none.file; memory = rest worker.Memory none.memory; spent = rest worker.Spent none.spent }),
      )

  -- if the verdict is `Done`, each worker served what came, or until the stop
  pub wholes_by : (history : List Entry) (worker_runs : List (WorkerRun settings opening)) → AllByRecursion (IsPart history) worker_runs → verdict_of (map (λ (s : WorkerRun settings opening). s.end) worker_runs) ≡ Done
      → AllByRecursion (IsWhole history) worker_runs
  wholes_by history worker_runs parts done =
      let ends = map (λ (s : WorkerRun settings opening). s.end) worker_runs in
      wholes history worker_runs parts (none_failed ends (has_end worker.AcceptFault ends) (has_end worker.FileFault ends) (has_end worker.Memory ends) (has_end worker.Spent ends) refl refl refl refl done)
