use Rattle.std.proofs.Common.{◌≡◌, drop}
use Rattle.std.specs.List.{list_any}
use Rattle.share_history.specs.Sessions.{is_stop, is_stopped}
use Rattle.reference_share.proofs.sessions.is_stopped.Given as goal

abbrev pub invariant-loop-entry : goal.invariant-loop-entry
invariant-loop-entry l =
    list_any is_stop (drop l.entry-index l.history) ≡ is_stopped l.history
