-- Workers that have ended and were gathered.
use Rattle.std.specs.Prelude.{◌≡◌, ℕ, List, [], map, Option}
use Rattle.std.specs.List.{flat_map, AllByRecursion}
use Rattle.item_model.specs.declared.changes.Entry.{Entry}
use Rattle.outside_net.specs.Places.{Returned}
use Rattle.outside_net.specs.Told.{Grows}
use Rattle.share_asks.specs.declared.ask.Role.{Role}
use Rattle.share_lock.specs.Known.{fresh}
use Rattle.share_replies.specs.Settings.{Settings}
use Rattle.share_server.specs.declared.report.LinkReport.{LinkReport}
use Rattle.share_server.specs.Passes.{Pass}
use Rattle.share_crew.specs.declared.verdict.Verdict.{Verdict}
use Rattle.share_crew.specs.Verdicts.{verdict_of}
use Rattle.share_crew.specs.Listeners.{CountsListenerFaults}
use Rattle.share_crew.specs.WorkerRuns.{WorkerRun, IsNumbered, passes_in, returns_of}
use Rattle.share_crew.specs.Crews.{HasJoined}

-- their lock handles were joined and their listeners closed: from workers of these roles at listeners with these
-- connections, under a lock for `passes` handles, to one handle and the reports of the workers
pub record HasGathered (settings : Settings) (opening : List Entry) (passes : ℕ) (roles : List Role) (coming : List (Option (List (List ℕ)))) (kept written written' : Option (List Returned)) (faults faults' : ℕ) (k : Pass) (links : List (List LinkReport)) (verdict : Verdict) : Type 0 where
  pub crew : List (WorkerRun settings opening)
  pub roles_are : map (λ worker_run. worker_run.role) crew ≡ roles
  pub coming_are : map (λ worker_run. worker_run.to_come) crew ≡ coming
  pub links_are : links ≡ map (λ worker_run. worker_run.reports) crew
  pub numbered : AllByRecursion (IsNumbered passes) (passes_in crew)
  pub joined : HasJoined (fresh 0 settings opening) k (passes_in crew)
  pub verdict_is : verdict ≡ verdict_of (map (λ worker_run. worker_run.end) crew)
  pub written_grows : Grows kept written [] → Grows kept written' (flat_map returns_of crew)
  pub counts : CountsListenerFaults faults faults' (map (λ worker_run. worker_run.end) crew)
