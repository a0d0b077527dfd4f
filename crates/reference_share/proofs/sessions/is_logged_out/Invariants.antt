use Rattle.std.proofs.Common.{◌≡◌, drop}
use Rattle.std.specs.List.{list_any}
use Rattle.share_history.specs.Sessions.{logs_out}
use Rattle.reference_share.proofs.sessions.is_logged_out.Given as goal

abbrev pub invariant-loop-entry : goal.invariant-loop-entry
invariant-loop-entry l =
    list_any (logs_out l.session) (drop l.entry-index l.history) ≡ list_any (logs_out l.session) l.history
