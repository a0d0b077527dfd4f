-- What a worker did: by the worker, its listener and its connection, before and after.
use Rattle.std.specs.Prelude.{◌≡◌, ℕ, List, [], Option}
use Rattle.outside_net.specs.Bounds.{Listeners}
use Rattle.outside_net.specs.Places.{Returned}
use Rattle.share_lock.specs.Passes.{LockId, known, IsReady}
use Rattle.share_server.specs.declared.report.LinkReport.{LinkReport}
use Rattle.share_server.specs.Passes.{Pass}
use Rattle.share_server.specs.Steps.{ServingSeen}
use Rattle.share_workers.specs.declared.worker.Worker.{Worker}
use Rattle.share_workers.specs.declared.worker.WorkerEnd.{WorkerEnd}
use Rattle.share_workers.specs.declared.worker.WorkerEnd.TheVariants.{Running}
use Rattle.share_workers.specs.Ends.{WorkerServed}
use Rattle.share_workers.specs.Steps.{LinkDone, Underway, GoesOnOrEnds}

-- what is known of a worker when it begins: what its lock handle has seen, and what its listener has
pub record WorkerSeen : Type 0 where
  pub pass : Pass
  pub coming : Option (List (List ℕ))
  pub written : Option (List Returned)

module _ {D : Type 0} where
  -- its lock handle is ready, and it has neither ended nor served a connection
  abbrev pub MayBegin : LockId → Worker D → Type 0
  MayBegin id worker = IsReady id worker.pass × (worker.end ≡ Running) × (worker.reports.items ≡ [])

  abbrev pub KeepsRole : (old new : Worker D) → Type 0
  KeepsRole old new = new.role ≡ old.role

module _ {D : Type 0} (g : Listeners D) where
  -- it served until this end came
  abbrev pub WorksUntil : (old new : Worker D) → WorkerEnd → Type 0
  WorksUntil old new end =
      WorkerServed old.role (known old.pass) (known new.pass) (g.coming old.listener) (g.coming new.listener)
      (g.written old.listener) (g.written new.listener) (g.faults old.listener) (g.faults new.listener) new.reports.items end

  -- it served to its end
  abbrev pub WorksToEnd : (old new : Worker D) → Type 0
  WorksToEnd old new = WorksUntil old new new.end

  -- since it began it has not ended; its listener has these connections to come
  abbrev pub IsUnderway : (start : WorkerSeen) → Option (List (List ℕ)) → (now : Worker D) (budget : ℕ) → Type 0
  IsUnderway start coming now budget =
      Underway now.role start.pass (known now.pass) start.coming coming start.written (g.written now.listener)
      now.reports.items budget

  -- it continues, or has ended so
  abbrev pub ContinuesOrEnds : (start : WorkerSeen) (old new : Worker D) (budget : ℕ) → Option WorkerEnd → Type 0
  ContinuesOrEnds start old new budget end =
      GoesOnOrEnds old.role start.pass (known new.pass) start.coming (g.coming new.listener) start.written (g.written new.listener)
      new.reports.items budget end

  -- the connection, on which no error was counted before, was served with this budget and returned to the listener, and
  -- then a turn was taken
  abbrev pub ServesOne : (old new : Worker D) (begun : ServingSeen) (budget : ℕ) → LinkReport → Type 0
  ServesOne old new begun budget report =
      LinkDone old.role budget begun.pass (known new.pass) begun.left begun.taken (g.written old.listener) (g.written new.listener) report
