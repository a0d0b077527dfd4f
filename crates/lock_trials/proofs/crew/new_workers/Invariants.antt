use Rattle.std.specs.Prelude.{All}
use Rattle.share_lock.specs.Passes.{lock_id, IsReady}
use Rattle.lock_trials.proofs.crew.new_workers.Given as goal

abbrev pub invariant-loop : goal.invariant-loop
invariant-loop g l = IsReady (lock_id l.lock) l.first × All (λ w. IsReady (lock_id l.lock) w.pass) l.workers.items
