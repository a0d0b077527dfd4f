-- One more connection of a worker that has not ended.
use Rattle.std.specs.Prelude.{◌≡◌, ℕ, ◌+◌, List, length, Bool, false, Option, Some, None}
use Rattle.outside_net.specs.Places.{Returned, returned}
use Rattle.outside_net.specs.Told.{GrowsByTold}
use Rattle.share_asks.specs.declared.ask.Role.{Role}
use Rattle.share_server.specs.declared.report.LinkReport.{LinkReport}
use Rattle.share_server.specs.Passes.{Pass}
use Rattle.share_server.specs.Serving.{LinkServed, CountsEnd}
use Rattle.share_workers.specs.declared.worker.WorkerEnd.{WorkerEnd}
use Rattle.share_workers.specs.Works.{all_served, Syncs, Works}
use Rattle.share_workers.specs.Ends.{MayGoOn, EndsWorker, IsWithin, is_worker_loss}

-- a connection with no error counted was served and returned to the listener, and then a turn was taken
pub record LinkDone (role : Role) (budget : ℕ) (k k' : Pass) (left taken : Option (List ℕ)) (written written' : Option (List Returned)) (report : LinkReport) : Type 0 where
  pub before : Pass
  pub taken' : Option (List ℕ)
  pub faults : ℕ
  pub served : LinkServed role budget k before left taken taken' report
  pub counted : CountsEnd 0 faults report.end
  pub given_back : GrowsByTold written written' (returned taken' faults)
  pub syncs : Syncs before k'

-- the worker has not ended, and this is what is left of its budget
pub record Underway (role : Role) (k k' : Pass) (coming coming' : Option (List (List ℕ))) (written written' : Option (List Returned)) (reports : List LinkReport) (budget : ℕ) : Type 0 where
  pub works : Works role k k' coming coming' written written' reports
  pub may : MayGoOn k' reports
  pub left : budget + length (all_served reports) ≡ 262144

-- it continues, or has ended so
abbrev pub GoesOnOrEnds : Role → Pass → Pass → Option (List (List ℕ)) → Option (List (List ℕ)) → Option (List Returned) → Option (List Returned) → List LinkReport → ℕ → Option WorkerEnd → Type 0
GoesOnOrEnds role k k' coming coming' written written' reports budget None = Underway role k k' coming coming' written written' reports budget
GoesOnOrEnds role k k' coming coming' written written' reports budget (Some end) =
    Works role k k' coming coming' written written' reports × EndsWorker k k' coming coming' reports end × IsWithin reports

-- whether it has ended because an edit could not be kept
abbrev pub ends_by_loss : Option WorkerEnd → Bool
ends_by_loss None = false
ends_by_loss (Some end) = is_worker_loss end
