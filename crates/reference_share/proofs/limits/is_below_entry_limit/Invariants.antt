use Rattle.std.proofs.Common.{◌≡◌, ◌≤◌, take, count_by}
use Rattle.share_history.specs.Limits.{is_limited}
use Rattle.reference_share.proofs.limits.is_below_entry_limit.Given as goal

abbrev pub invariant-loop-entry : goal.invariant-loop-entry
invariant-loop-entry l = record {
  bound : l.count ≤ l.entry-index;
  total : l.count ≡ count_by is_limited (take l.entry-index l.history);
}
