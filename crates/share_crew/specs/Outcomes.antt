-- What the outcome of a run says of the share that it served.
use Rattle.std.specs.Prelude.{◌≡◌, List, Some}
use Rattle.item_model.specs.declared.changes.Entry.{Entry}
use Rattle.share_history.specs.Whole.{IsWhole}
use Rattle.share_server.specs.declared.report.LinkReport.{LinkReport}
use Rattle.share_crew.specs.declared.outcome.Outcome.{Outcome}

-- its history, which is whole, and the reports of its connections
pub record LeavesShare (history : List Entry) (links : List (List LinkReport)) (outcome : Outcome) : Type 0 where
  pub history_is : outcome.history ≡ Some history
  pub whole : IsWhole history
  pub links_are : outcome.links ≡ links
