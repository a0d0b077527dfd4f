use Rattle.std.proofs.Common.{◌≡◌, ◌++◌, drop, take}
use Rattle.share_history.specs.Marks.{until_login}
use Rattle.reference_share.proofs.sessions.until_login.Given as goal

abbrev pub invariant-loop-place : goal.invariant-loop-place
invariant-loop-place l =
    take l.place l.history ++ until_login l.session (drop l.place l.history) ≡ until_login l.session l.history
