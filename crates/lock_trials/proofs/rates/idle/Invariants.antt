use Rattle.share_lock.specs.Passes.{lock_id, IsReady}
use Rattle.lock_trials.proofs.rates.idle.Given as goal

abbrev pub invariant-loop : goal.invariant-loop
invariant-loop g l = IsReady (lock_id l.lock) l.worker.pass
