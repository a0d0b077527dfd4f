use Rattle.std.proofs.Common.{◌≡◌, drop}
use Rattle.share_history.specs.Sessions.{after_login}
use Rattle.reference_share.proofs.sessions.after_login.Given as goal

abbrev pub invariant-loop-place : goal.invariant-loop-place
invariant-loop-place l =
    after_login l.session (drop l.place l.history) ≡ after_login l.session l.history
