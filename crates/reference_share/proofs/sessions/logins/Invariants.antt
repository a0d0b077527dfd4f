use Rattle.std.proofs.Common.{◌≡◌, ◌≤◌, take, count_by}
use Rattle.share_history.specs.Sessions.{is_login}
use Rattle.reference_share.proofs.sessions.logins.Given as goal

abbrev pub invariant-loop-entry : goal.invariant-loop-entry
invariant-loop-entry l = record {
  bound : l.count ≤ l.entry-index;
  total : l.count ≡ count_by is_login (take l.entry-index l.entries);
}
