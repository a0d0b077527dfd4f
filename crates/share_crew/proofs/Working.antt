-- All workers, from before they begin to what they leave.
use Rattle.std.proofs.Common.{◌≡◌, ℕ, List, [], ◌∷◌, map, Option, refl, sym, subst, ap, ◌∙◌}
use Rattle.std.proofs.lemmas.List.Elements.{recursion_from_All}
use Rattle.std.specs.List.{AllByRecursion, AllZip}
use Rattle.std.specs.Prelude.{All}
use Rattle.outside_net.specs.Places.{Returned}
use Rattle.item_model.specs.declared.changes.Entry.{Entry}
use Rattle.share_lock.specs.Known.{fresh}
use Rattle.share_lock.specs.Passes.{LockId}
use Rattle.share_replies.specs.Settings.{Settings}
use Rattle.share_server.specs.declared.report.LinkReport.{LinkReport}
use Rattle.share_server.specs.Passes.{Pass}
use Rattle.share_workers.specs.declared.worker.Worker.{Worker}
use Rattle.share_crew.specs.declared.verdict.Verdict.{Verdict}
use Rattle.share_crew.specs.Verdicts.{verdict_of}
use Rattle.share_crew.specs.Listeners.{IsNew}
use Rattle.share_crew.specs.WorkerRuns.{WorkerRun, passes_in}
use Rattle.share_crew.specs.Crews.{IsNewWorker, IsOf, HasEnded, HasJoined, HasClosedListeners}
use Rattle.share_crew.specs.Gathered.{HasGathered}
use Rattle.share_crew.proofs.Staffing.{worker_runs_of}

module _ {D : Type 0} where
  -- what holds of the listeners of workers
  of_listeners : (P : D → Type 0) (workers : List (Worker D)) → AllByRecursion P (map (λ (w : Worker D). w.listener) workers) → AllByRecursion (λ (w : Worker D). P w.listener) workers
  of_listeners P [] all = tt
  of_listeners P (w ∷ workers) all = (all.0, of_listeners P workers all.1)

  module _ {settings : Settings} {opening : List Entry} (written : D → Option (List Returned)) (faults : D → ℕ) where
    reports_are : (worker_runs : List (WorkerRun settings opening)) (workers : List (Worker D)) → AllZip (IsOf written faults) worker_runs workers
        → map (λ (s : WorkerRun settings opening). s.reports) worker_runs ≡ map (λ (w : Worker D). w.reports.items) workers
    reports_are [] [] zip = refl
    reports_are [] (w ∷ workers) zip = absurd zip
    reports_are (s ∷ worker_runs) [] zip = absurd zip
    reports_are (s ∷ worker_runs) (w ∷ workers) zip = λ i. zip.0.reports_are i ∷ reports_are worker_runs workers zip.1 i

    ends_are : (worker_runs : List (WorkerRun settings opening)) (workers : List (Worker D)) → AllZip (IsOf written faults) worker_runs workers
        → map (λ (s : WorkerRun settings opening). s.end) worker_runs ≡ map (λ (w : Worker D). w.end) workers
    ends_are [] [] zip = refl
    ends_are [] (w ∷ workers) zip = absurd zip
    ends_are (s ∷ worker_runs) [] zip = absurd zip
    ends_are (s ∷ worker_runs) (w ∷ workers) zip = λ i. zip.0.end_is i ∷ ends_are worker_runs workers zip.1 i

  pub has_gathered : (settings : Settings) (opening : List Entry) (id : LockId) (k k' : Pass) (coming : D → Option (List (List ℕ))) (written : D → Option (List Returned)) (faults : D → ℕ)
      (kept : Option (List Returned)) (before after : List (Worker D)) (w w' : Option (List Returned)) (n n' : ℕ) (links : List (List LinkReport)) (verdict : Verdict)
      → k ≡ fresh 0 settings opening → All (IsNewWorker id k) before
      → All (IsNew written faults kept) (map (λ (one : Worker D). one.listener) before) → AllZip (HasEnded coming written faults) before after → AllZip (λ (old new : Worker D). new.role ≡ old.role) before after
      → ((worker_runs : List (WorkerRun settings opening)) → AllZip (IsOf written faults) worker_runs after → HasJoined k k' (passes_in worker_runs))
      → ((worker_runs : List (WorkerRun settings opening)) → AllZip (IsOf written faults) worker_runs after → HasClosedListeners w w' n n' worker_runs)
      → links ≡ map (λ (one : Worker D). one.reports.items) after → verdict ≡ verdict_of (map (λ (one : Worker D). one.end) after)
      → (g : HasGathered settings opening id.1 (map (λ (one : Worker D). one.role) before) (map (λ (one : Worker D). coming one.listener) before) kept w w' n n' k' links verdict)
      × AllZip (IsOf written faults) g.crew after
  has_gathered settings opening id k k' coming written faults kept before after w w' n n' links verdict start hired listeners served roles joined shut links_are verdict_is =
      let all = worker_runs_of settings opening id k coming written faults kept before after start (recursion_from_All (IsNewWorker id k) before hired)
      (of_listeners (IsNew written faults kept) before (recursion_from_All (IsNew written faults kept) (map (λ (one : Worker D). one.listener) before) listeners)) served roles in
      let worker_runs : List (WorkerRun settings opening) = all.worker_runs in
      let given_back = shut worker_runs all.are in (
        record {
          crew = worker_runs;
          roles_are = all.roles;
          coming_are = all.come;
          links_are = links_are ∙ sym (reports_are written faults worker_runs after all.are);
          numbered = all.numbered;
          joined = subst (λ (p : Pass). HasJoined p k' (passes_in worker_runs)) start (joined worker_runs all.are);
          verdict_is = verdict_is ∙ ap verdict_of (sym (ends_are written faults worker_runs after all.are));
          written_grows = λ grows. given_back.written_grows kept [] all.begun grows;
          counts = given_back.counts;
        },
        all.are,
      )
