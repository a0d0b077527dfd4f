use Rattle.std.proofs.Common.{◌≡◌, ◌++◌}
use Rattle.share_lock.specs.Passes.{lock_id, known, IsReady}
use Rattle.lock_trials.specs.Work.{added_in, first_numbers, IsSame}
use Rattle.lock_trials.proofs.work.work.Given as goal

abbrev pub invariant-loop-value : goal.invariant-loop-value
invariant-loop-value g l = record {
  counted : l.worker.added ≡ l.value;
  ready : IsReady (lock_id l.lock) l.worker.pass;
  same : IsSame (known l.fn.worker.pass) (known l.worker.pass);
  added : added_in (known l.worker.pass) ≡ added_in (known l.fn.worker.pass) ++ first_numbers (known l.fn.worker.pass).number l.value;
}
