-- Workers that are made, one for each listener, and their worker runs once they have ended.
use Rattle.std.proofs.Common.{◌≡◌, ◌<◌, ◌≤◌, ℕ, List, [], ◌∷◌, ◌++◌, map, Option, refl, sym, subst, ap, ◌∙◌, arith, append_assoc, append-nil}
use Rattle.std.proofs.lemmas.List.{map-append}
use Rattle.std.proofs.lemmas.List.Elements.{All-append, All-push}
use Rattle.std.specs.List.{AllByRecursion, AllZip}
use Rattle.std.specs.Prelude.{All}
use Rattle.outside_net.specs.Places.{Returned}
use Rattle.outside_net.specs.Told.{BeginsEmpty}
use Rattle.item_model.specs.declared.changes.Entry.{Entry}
use Rattle.share_asks.specs.declared.ask.Role.{Role}
use Rattle.share_lock.specs.Known.{fresh}
use Rattle.share_lock.specs.Passes.{LockId, known, IsReady}
use Rattle.share_replies.specs.Settings.{Settings}
use Rattle.share_server.specs.Passes.{Pass}
use Rattle.share_workers.specs.declared.worker.Worker.{Worker}
use Rattle.share_workers.specs.declared.worker.WorkerEnd.TheVariants.{Running}
use Rattle.share_workers.specs.Ends.{WorkerServed}
use Rattle.share_crew.specs.Listeners.{IsNew}
use Rattle.share_crew.specs.WorkerRuns.{WorkerRun, IsNumbered, passes_in}
use Rattle.share_crew.specs.Crews.{IsNewWorker, AddsWorkers, HasEnded, IsStaff, IsOf}

module _ {D : Type 0} where
  pub none_hired : (id : LockId) (k : Pass) (role : Role) (crew : List (Worker D)) → AddsWorkers id k role [] crew crew
  none_hired id k role crew = record { added = []; are = sym (append-nil crew); hired = λ n d less. absurd (omega arith); listeners_are = refl; roles_are = refl }

  pub hire_more : (id : LockId) (k : Pass) (role : Role) (listeners : List D) (listener : D) (before after after' : List (Worker D)) (worker : Worker D) → AddsWorkers id k role listeners before after
      → after' ≡ after ++ worker ∷ [] → IsNewWorker id k worker → worker.listener ≡ listener → worker.role ≡ role → AddsWorkers id k role (listeners ++ listener ∷ []) before after'
  hire_more id k role listeners listener before after after' worker h is one at role_is = record {
    added = h.added ++ worker ∷ [];
    are = is ∙ (ap (λ l. l ++ worker ∷ []) h.are ∙ append_assoc before h.added (worker ∷ []));
    hired = All-push (IsNewWorker id k) h.added worker h.hired one;
    listeners_are = map-append (λ (w : Worker D). w.listener) h.added (worker ∷ []) ∙ (λ i. h.listeners_are i ++ at i ∷ []);
    roles_are = map-append (λ (w : Worker D). w.role) h.added (worker ∷ []) ∙ ((λ i. h.roles_are i ++ role_is i ∷ []) ∙ sym (map-append (λ (d : D). role) listeners (listener ∷ [])));
  }

  pub is_hired : (id : LockId) (k k' : Pass) (worker : Worker D) → k' ≡ k → IsReady id worker.pass → known worker.pass ≡ fresh (known worker.pass).number k'.settings k'.seen
      → 1 ≤ (known worker.pass).number → (known worker.pass).number < id.1 → worker.reports.items ≡ [] → worker.end ≡ Running → IsNewWorker id k worker
  is_hired id k k' worker same ready pass some few unreported running = record {
    ready = ready;
    pass = pass ∙ ap (λ (p : Pass). fresh (known worker.pass).number p.settings p.seen) same;
    some = some;
    few = few;
    unreported = unreported;
    running = running;
  }

  -- those of one address, and then those of the other
  pub staff : (id : LockId) (k : Pass) (one other : Role) (listen edit : List D) (mid crew : List (Worker D)) → AddsWorkers id k one listen [] mid → AddsWorkers id k other edit mid crew
      → IsStaff id k (map (λ listener. one) listen ++ map (λ listener. other) edit) (listen ++ edit) crew
  staff id k one other listen edit mid crew h g =
      let all : crew ≡ h.added ++ g.added = g.are ∙ ap (λ l. l ++ g.added) h.are in record {
        hired = subst (All (IsNewWorker id k)) (sym all) (All-append (IsNewWorker id k) h.added g.added h.hired g.hired);
        listeners_are = ap (map (λ (w : Worker D). w.listener)) all ∙ (map-append (λ (w : Worker D). w.listener) h.added g.added ∙ (λ i. h.listeners_are i ++ g.listeners_are i));
        roles_are = ap (map (λ (w : Worker D). w.role)) all ∙ (map-append (λ (w : Worker D). w.role) h.added g.added ∙ (λ i. h.roles_are i ++ g.roles_are i));
      }

-- the worker runs of workers, from before they begin to what they leave
pub record HasWorkerRuns {D : Type 0} (settings : Settings) (opening : List Entry) (passes : ℕ) (coming : D → Option (List (List ℕ))) (written : D → Option (List Returned)) (faults : D → ℕ) (kept : Option (List Returned)) (before after : List (Worker D)) : Type 0 where
  pub worker_runs : List (WorkerRun settings opening)
  pub are : AllZip (IsOf written faults) worker_runs after
  pub roles : map (λ (s : WorkerRun settings opening). s.role) worker_runs ≡ map (λ (w : Worker D). w.role) before
  pub come : map (λ (s : WorkerRun settings opening). s.to_come) worker_runs ≡ map (λ (w : Worker D). coming w.listener) before
  pub begun : AllByRecursion (λ (s : WorkerRun settings opening). BeginsEmpty kept s.begun) worker_runs
  pub numbered : AllByRecursion (IsNumbered passes) (passes_in worker_runs)

module _ {D : Type 0} (settings : Settings) (opening : List Entry) (id : LockId) (k : Pass) (coming : D → Option (List (List ℕ))) (written : D → Option (List Returned)) (faults : D → ℕ) (kept : Option (List Returned)) where
  -- the number stays
  number_stays : (old new : Worker D) → HasEnded coming written faults old new → (known new.pass).number ≡ (known old.pass).number
  number_stays old new served = ap (λ (p : Pass). p.number) served.works.serves.stays

  -- a worker's worker run
  worker_run_of : (old new : Worker D) → k ≡ fresh 0 settings opening → IsNewWorker id k old → IsNew written faults kept old.listener → HasEnded coming written faults old new → WorkerRun settings opening
  worker_run_of old new start hired new_listener served = record {
    role = old.role;
    pass = known new.pass;
    to_come = coming old.listener;
    left = coming new.listener;
    begun = written old.listener;
    written = written new.listener;
    faults = faults new.listener;
    reports = new.reports.items;
    end = new.end;
    served = subst (λ (n : ℕ). WorkerServed old.role (fresh (known new.pass).number settings opening) (known new.pass) (coming old.listener) (coming new.listener) (written old.listener) (written new.listener) n (faults new.listener) new.reports.items new.end) new_listener.faultless
        (subst (λ (p : Pass). WorkerServed old.role p (known new.pass) (coming old.listener) (coming new.listener) (written old.listener) (written new.listener) (faults old.listener) (faults new.listener) new.reports.items new.end)
        (hired.pass ∙ ((λ i. fresh (sym (number_stays old new served) i) (start i).settings (start i).seen))) served);
  }

  pub worker_runs_of : (before after : List (Worker D)) → k ≡ fresh 0 settings opening → AllByRecursion (IsNewWorker id k) before → AllByRecursion (λ (w : Worker D). IsNew written faults kept w.listener) before
      → AllZip (HasEnded coming written faults) before after → AllZip (λ (old new : Worker D). new.role ≡ old.role) before after → HasWorkerRuns settings opening id.1 coming written faults kept before after
  unfolding worker_run_of
  worker_runs_of [] [] start hired listeners served roles = record { worker_runs = []; are = tt; roles = refl; come = refl; begun = tt; numbered = tt }
  worker_runs_of [] (new ∷ after) start hired listeners served roles = absurd served
  worker_runs_of (old ∷ before) [] start hired listeners served roles = absurd served
  worker_runs_of (old ∷ before) (new ∷ after) start hired listeners served roles =
      let rest = worker_runs_of before after start hired.1 listeners.1 served.1 roles.1 in
      let one = worker_run_of old new start hired.0 listeners.0 served.0 in
      let number = number_stays old new served.0 in record {
        worker_runs = one ∷ rest.worker_runs;
        are = (record { pass_is = refl; role_is = sym roles.0; written_is = refl; faults_are = refl; reports_are = refl; end_is = refl }, rest.are);
        roles = ap (λ l. old.role ∷ l) rest.roles;
        come = ap (λ l. coming old.listener ∷ l) rest.come;
        begun = (listeners.0.unwritten, rest.begun);
        numbered = (subst (λ n. (1 ≤ n) × (n < id.1)) (sym number) (hired.0.some, hired.0.few), rest.numbered);
      }
