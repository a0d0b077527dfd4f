-- How a worker ends: exactly one end fits what its connections left, but for errors of its listener and allocation
-- failures.
use Rattle.std.specs.Prelude.{◌≡◌, ◌≢◌, ◌⊎◌, ℕ, ◌<◌, ◌≤◌, List, [], ◌∷◌, ◌++◌, length, Bool, true, false, Option}
use Rattle.item_model.specs.declared.changes.Entry.{Entry}
use Rattle.outside_net.specs.Counts.{Rose}
use Rattle.outside_net.specs.Places.{Returned}
use Rattle.share_asks.specs.declared.ask.Role.{Role}
use Rattle.share_history.specs.Sessions.{is_stopped}
use Rattle.share_server.specs.declared.report.LinkReport.{LinkReport}
use Rattle.share_server.specs.Losses.{is_loss}
use Rattle.share_server.specs.Passes.{Pass}
use Rattle.share_workers.specs.declared.worker.WorkerEnd.{WorkerEnd}
use Rattle.share_workers.specs.declared.worker.WorkerEnd.TheVariants.{Running, Stopped, NoMoreLinks, Spent, AcceptFault, FileFault, Memory}
use Rattle.share_workers.specs.Works.{all_served, loses_any, IsLostBy, IsOver, ServesThenSyncs, SyncsAfterLast, Works}

-- a worker may continue after these connections: it may serve one more connection and one more request, saw no stop
-- after the last, and lost no edit
pub record MayGoOn (k : Pass) (reports : List LinkReport) : Type 0 where
  pub links : length reports < 65536
  pub requests : length (all_served reports) < 262144
  pub going : reports ≢ [] → is_stopped k.seen ≡ false
  pub whole : loses_any reports ≡ false

-- it could continue after all connections but the last, and served the last
pub record GoesOnToLast (k k' : Pass) (reports : List LinkReport) : Type 0 where
  pub earlier : List LinkReport
  pub last : LinkReport
  pub are : reports ≡ earlier ++ last ∷ []
  pub before : Pass
  pub syncs : SyncsAfterLast k before earlier []
  pub may : MayGoOn before earlier
  pub lost : List Entry
  pub serves : ServesThenSyncs before k' last.served lost
  pub loses : IsLostBy before k' last.served (is_loss last.end) lost

abbrev pub EndsWorker : Pass → Pass → Option (List (List ℕ)) → Option (List (List ℕ)) → List LinkReport → WorkerEnd → Type 0
EndsWorker k k' coming coming' reports Running = ⊥
EndsWorker k k' coming coming' reports Stopped =
    GoesOnToLast k k' reports × (is_stopped k'.seen ≡ true) × (loses_any reports ≡ false)
EndsWorker k k' coming coming' reports NoMoreLinks = MayGoOn k' reports × IsOver coming coming'
EndsWorker k k' coming coming' reports Spent =
    GoesOnToLast k k' reports × (is_stopped k'.seen ≡ false)
    × ((length reports ≡ 65536) ⊎ (length (all_served reports) ≡ 262144)) × (loses_any reports ≡ false)
EndsWorker k k' coming coming' reports AcceptFault = MayGoOn k' reports
EndsWorker k k' coming coming' reports FileFault =
    GoesOnToLast k k' reports × (is_stopped k'.seen ≡ true) × (loses_any reports ≡ true)
EndsWorker k k' coming coming' reports Memory = MayGoOn k' reports

-- whether it ended because an edit could not be kept
abbrev pub is_worker_loss : WorkerEnd → Bool
is_worker_loss FileFault = true
is_worker_loss other = false

-- the listener's error counter, by the worker's end
abbrev pub CountsAccepts : ℕ → ℕ → WorkerEnd → Type 0
CountsAccepts before now AcceptFault = Rose before now
CountsAccepts before now other = now ≡ before

-- the maxima of a worker
abbrev pub IsWithin : List LinkReport → Type 0
IsWithin reports = (length reports ≤ 65536) × (length (all_served reports) ≤ 262144)

-- a worker that served to its end, by its lock handle and its listener before and after
pub record WorkerServed (role : Role) (k k' : Pass) (coming coming' : Option (List (List ℕ))) (written written' : Option (List Returned)) (faults faults' : ℕ) (reports : List LinkReport) (end : WorkerEnd) : Type 0 where
  pub works : Works role k k' coming coming' written written' reports
  pub ends : EndsWorker k k' coming coming' reports end
  pub counts : CountsAccepts faults faults' end
  pub within : IsWithin reports
  pub whole : loses_any reports ≡ is_worker_loss end
