-- A connection that was served: how its end and its reports follow from its bytes and the share's history, and when
-- its error counter increases.
use Rattle.std.specs.Prelude.{◌≡◌, ℕ, min, List, Bool, true, false, Option, MatchBool}
use Rattle.std.specs.List.{list_any}
use Rattle.outside_net.specs.Counts.{Rose}
use Rattle.share_asks.specs.declared.ask.Role.{Role}
use Rattle.share_asks.specs.declared.ask.Role.TheVariants.{Listen}
use Rattle.share_history.specs.Sessions.{is_stop}
use Rattle.share_replies.specs.Laws.{is_edit}
use Rattle.share_server.specs.declared.report.LinkEnd.{LinkEnd}
use Rattle.share_server.specs.declared.report.LinkEnd.TheVariants.{LinkFault}
use Rattle.share_server.specs.declared.report.LinkReport.{LinkReport}
use Rattle.share_server.specs.Links.{LinkEnded}
use Rattle.share_server.specs.Losses.{is_loss}
use Rattle.share_server.specs.Passes.{Pass}
use Rattle.share_server.specs.Served.{added_entries}

-- The most requests on one connection, if its worker may serve `budget` more.
abbrev pub limit_of : ℕ → ℕ
limit_of budget = min budget 65536

-- A connection and the handle that served it, before and after.
pub record LinkServed (role : Role) (budget : ℕ) (k k' : Pass) (left taken taken' : Option (List ℕ)) (report : LinkReport) : Type 0 where
  -- the report has the handle's number
  pub number : report.number ≡ k.number
  -- what was served and written follows from the bytes and the share, and so does the end
  pub ended : LinkEnded role (limit_of budget) k k' left taken taken' report.served report.end
  -- no player edited the share or stopped it
  pub quiet : role ≡ Listen → (list_any is_edit (added_entries k'.seen report.served) ≡ false) × (list_any is_stop (added_entries k'.seen report.served) ≡ false)
  -- no player lost an edit
  pub unlost : role ≡ Listen → is_loss report.end ≡ false

abbrev pub is_fault : LinkEnd → Bool
is_fault LinkFault = true
is_fault other = false

-- The end is a reported error exactly if the counter increased. Every other end leaves it unchanged.
abbrev pub CountsEnd : (before now : ℕ) → LinkEnd → Type 0
CountsEnd before now end = MatchBool (is_fault end) (Rose before now) (now ≡ before)
