-- Workers before they begin and after they have ended, and what is known once their lock handles were joined and their
-- listeners closed.
use Rattle.std.specs.Prelude.{◌≡◌, ◌<◌, ◌≤◌, ℕ, List, [], ◌∷◌, ◌++◌, map, All, Option}
use Rattle.std.specs.List.{flat_map, AllByRecursion}
use Rattle.item_model.specs.declared.changes.Entry.{Entry}
use Rattle.outside_net.specs.Places.{Returned}
use Rattle.outside_net.specs.Told.{BeginsEmpty, Grows}
use Rattle.share_asks.specs.declared.ask.Role.{Role}
use Rattle.share_lock.specs.Histories.{Continues}
use Rattle.share_lock.specs.Known.{numbers_of, fresh}
use Rattle.share_lock.specs.Passes.{LockId, known, IsReady}
use Rattle.share_replies.specs.Settings.{Settings}
use Rattle.share_replies.specs.Laws.{maker}
use Rattle.share_server.specs.Passes.{Pass}
use Rattle.share_workers.specs.declared.worker.Worker.{Worker}
use Rattle.share_workers.specs.declared.worker.WorkerEnd.TheVariants.{Running}
use Rattle.share_workers.specs.Ends.{WorkerServed}
use Rattle.share_crew.specs.Listeners.{CountsListenerFaults}
use Rattle.share_crew.specs.WorkerRuns.{WorkerRun, AreDistinct, numbers_of_all, returns_of}

module _ {D : Type 0} where
  -- a worker that has not begun, with a new lock handle that has seen what another has
  pub record IsNewWorker (id : LockId) (k : Pass) (worker : Worker D) : Type 0 where
    pub ready : IsReady id worker.pass
    pub pass : known worker.pass ≡ fresh (known worker.pass).number k.settings k.seen
    pub some : 1 ≤ (known worker.pass).number
    pub few : (known worker.pass).number < id.1
    pub unreported : worker.reports.items ≡ []
    pub running : worker.end ≡ Running

  -- a worker for each listener was appended
  pub record AddsWorkers (id : LockId) (k : Pass) (role : Role) (listeners : List D) (before after : List (Worker D)) : Type 0 where
    pub added : List (Worker D)
    pub are : after ≡ before ++ added
    pub hired : All (IsNewWorker id k) added
    pub listeners_are : map (λ worker. worker.listener) added ≡ listeners
    pub roles_are : map (λ worker. worker.role) added ≡ map (λ listener. role) listeners

  -- all workers of a share, for these listeners and roles
  pub record IsStaff (id : LockId) (k : Pass) (roles : List Role) (listeners : List D) (crew : List (Worker D)) : Type 0 where
    pub hired : All (IsNewWorker id k) crew
    pub listeners_are : map (λ worker. worker.listener) crew ≡ listeners
    pub roles_are : map (λ worker. worker.role) crew ≡ roles

  -- a worker before and after its work
  abbrev pub HasEnded : (D → Option (List (List ℕ))) → (D → Option (List Returned)) → (D → ℕ) → Worker D → Worker D → Type 0
  HasEnded coming written faults old new =
      WorkerServed old.role (known old.pass) (known new.pass) (coming old.listener) (coming new.listener) (written old.listener) (written new.listener) (faults old.listener) (faults new.listener) new.reports.items new.end

  -- a worker that has ended, and its worker run
  pub record IsOf {settings : Settings} {opening : List Entry} (written : D → Option (List Returned)) (faults : D → ℕ) (worker_run : WorkerRun settings opening) (worker : Worker D) : Type 0 where
    pub pass_is : worker_run.pass ≡ known worker.pass
    pub role_is : worker_run.role ≡ worker.role
    pub written_is : worker_run.written ≡ written worker.listener
    pub faults_are : worker_run.faults ≡ faults worker.listener
    pub reports_are : worker_run.reports ≡ worker.reports.items
    pub end_is : worker_run.end ≡ worker.end

-- no handle was joined to it, and the history continues what it had seen
abbrev pub ContinuesHistory : List Entry → Pass → Type 0
ContinuesHistory history pass = (pass.taken_in ≡ []) × Continues maker (numbers_of pass) pass.seen history

-- some handles were joined to a handle
pub record HasJoined (k k' : Pass) (passes : List Pass) : Type 0 where
  pub number : k'.number ≡ k.number
  pub settings_stay : k'.settings ≡ k.settings
  pub taken : k'.taken_in ≡ k.taken_in ++ numbers_of_all passes
  pub front : Continues maker (numbers_of k) k.seen k'.seen
  pub fronts : AllByRecursion (ContinuesHistory k'.seen) passes
  pub differ : k.taken_in ≡ [] → AreDistinct (k.number ∷ numbers_of_all passes)

module _ {settings : Settings} {opening : List Entry} where
  -- the listeners of some worker runs were closed
  pub record HasClosedListeners (written written' : Option (List Returned)) (faults faults' : ℕ) (worker_runs : List (WorkerRun settings opening)) : Type 0 where
    pub written_grows : (kept : Option (List Returned)) (more : List Returned) → AllByRecursion (λ worker_run. BeginsEmpty kept worker_run.begun) worker_runs → Grows kept written more
        → Grows kept written' (more ++ flat_map returns_of worker_runs)
    pub counts : CountsListenerFaults faults faults' (map (λ worker_run. worker_run.end) worker_runs)
