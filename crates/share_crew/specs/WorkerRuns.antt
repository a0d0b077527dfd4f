-- The worker runs of a share's workers, and the history that they leave together.
use Rattle.std.specs.Prelude.{◌≡◌, ◌≢◌, ◌⊎◌, ◌≤◌, ◌<◌, ℕ, List, [], ◌∷◌, ◌++◌, map, true, ⊤, All, Contains, Option, Some, None}
use Rattle.std.specs.List.{AllByRecursion}
use Rattle.item_model.specs.declared.changes.Entry.{Entry}
use Rattle.outside_net.specs.Places.{Returned}
use Rattle.share_asks.specs.declared.ask.Role.{Role}
use Rattle.share_history.specs.Sessions.{is_stopped}
use Rattle.share_lock.specs.Histories.{NoneOf, entries_of}
use Rattle.share_lock.specs.Known.{fresh}
use Rattle.share_replies.specs.Settings.{Settings}
use Rattle.share_replies.specs.Laws.{maker}
use Rattle.share_server.specs.declared.report.LinkReport.{LinkReport}
use Rattle.share_server.specs.Passes.{Pass}
use Rattle.share_server.specs.Served.{added_entries}
use Rattle.share_workers.specs.declared.worker.WorkerEnd.{WorkerEnd}
use Rattle.share_workers.specs.Works.{all_served}
use Rattle.share_workers.specs.Ends.{WorkerServed}

-- no number is in the list twice
abbrev pub AreDistinct : List ℕ → Type 0
AreDistinct [] = ⊤
AreDistinct (n ∷ ns) = (¬ (Contains ns n)) × AreDistinct ns

abbrev pub numbers_of_all : List Pass → List ℕ
numbers_of_all passes = map (λ k. k.number) passes

-- its number is not the first handle's, and is below the bound
abbrev pub IsNumbered : (bound : ℕ) → Pass → Type 0
IsNumbered bound k = (1 ≤ k.number) × (k.number < bound)

-- a handle that served no connection: the history begins with what it had seen, and has no other entries of its number
pub record IsOther (history : List Entry) (k : Pass) : Type 0 where
  pub later : List Entry
  pub begins : history ≡ k.seen ++ later
  pub own : entries_of maker k.number history ≡ entries_of maker k.number k.seen

-- these are all connections of a listener, if they are known
abbrev pub AreAllInputs : Option (List (List ℕ)) → List (List ℕ) → Type 0
AreAllInputs None inputs = ⊤
AreAllInputs (Some to_come) inputs = to_come ≡ inputs

-- the work of a worker, to its end: from a lock handle that had seen only the opening, and a new listener
pub record WorkerRun (settings : Settings) (opening : List Entry) : Type 0 where
  pub role : Role
  -- its lock handle at the end
  pub pass : Pass
  -- the inputs of its listener's connections, and of those that it did not accept, if they are known
  pub to_come : Option (List (List ℕ))
  pub left : Option (List (List ℕ))
  -- the closed connections of its listener, before and after
  pub begun : Option (List Returned)
  pub written : Option (List Returned)
  -- the error counter of its listener
  pub faults : ℕ
  pub reports : List LinkReport
  pub end : WorkerEnd
  pub served : WorkerServed role (fresh pass.number settings opening) pass to_come left begun written 0 faults reports end

module _ {settings : Settings} {opening : List Entry} where
  -- what was written on the connections that a worker served, and whether each failed
  abbrev pub returns_of : WorkerRun settings opening → List Returned
  returns_of worker_run = worker_run.served.works.returns

  abbrev pub passes_in : List (WorkerRun settings opening) → List Pass
  passes_in worker_runs = map (λ worker_run. worker_run.pass) worker_runs

  -- the history begins with what its worker had seen, and its entries of the worker's number are those of the reports
  -- and then those that it lost
  pub record IsPart (history : List Entry) (worker_run : WorkerRun settings opening) : Type 0 where
    pub later : List Entry
    pub begins : history ≡ worker_run.pass.seen ++ later
    pub none : NoneOf maker (worker_run.pass.number ∷ []) later
    pub own : entries_of maker worker_run.pass.number history ≡ added_entries history (all_served worker_run.reports) ++ worker_run.served.works.lost

  -- the entries of a history are those of its opening and then those that `passes` handles added: these workers' and
  -- others
  pub record IsHistoryOf (passes : ℕ) (history : List Entry) (worker_runs : List (WorkerRun settings opening)) (others : List Pass) : Type 0 where
    pub parts : AllByRecursion (IsPart history) worker_runs
    pub other_parts : AllByRecursion (IsOther history) others
    pub differ : AreDistinct (numbers_of_all (passes_in worker_runs ++ others))
    pub numbered : AllByRecursion (λ n. (1 ≤ n) × (n ≤ passes)) (numbers_of_all (passes_in worker_runs ++ others))
    pub later : List Entry
    pub begins : history ≡ opening ++ later
    pub made : All (λ e. Contains (numbers_of_all (passes_in worker_runs ++ others)) (maker e)) later

  -- it served all connections of its listener; or at least one, and the share was stopped
  abbrev pub IsWhole : List Entry → WorkerRun settings opening → Type 0
  IsWhole history worker_run = AreAllInputs worker_run.to_come worker_run.served.works.inputs ⊎ ((worker_run.reports ≢ []) × (is_stopped history ≡ true))
