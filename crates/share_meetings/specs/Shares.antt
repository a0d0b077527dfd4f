-- A connection of any share: of one that `serve` opened, or of a relay's.
use Rattle.std.specs.Prelude.{◌≡◌, ℕ, List, ◌++◌}
use Rattle.item_model.specs.declared.changes.Entry.{Entry}
use Rattle.share_asks.specs.declared.ask.Role.{Role}
use Rattle.share_history.specs.Whole.{IsWhole}
use Rattle.share_replies.specs.Settings.{Settings}
use Rattle.share_server.specs.declared.report.LinkReport.{LinkReport}
use Rattle.share_meetings.specs.Links.{ServedLink}

-- The share left the history, and a worker served the connection over what it had seen of it.
pub record IsOfShare (s : Settings) (h : List Entry) (report : LinkReport) (input output : List ℕ) : Type 0 where
  pub whole : IsWhole h
  pub seen : List Entry
  pub later : List Entry
  pub begins : h ≡ seen ++ later
  pub role : Role
  pub limit : ℕ
  pub link : ServedLink s report.number limit role seen input output
  pub reported : link.served ≡ report.served
