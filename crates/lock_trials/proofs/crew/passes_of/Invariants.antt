use Rattle.std.proofs.Common.{◌≡◌, ◌++◌}
use Rattle.std.specs.Prelude.{All}
use Rattle.std.specs.Vec.Iter.{into_iter_items}
use Rattle.share_lock.specs.Passes.{lock_id, IsReady}
use Rattle.lock_trials.proofs.crew.passes_of.Given as goal

abbrev pub invariant-loop-worker : goal.invariant-loop-worker
invariant-loop-worker l = record {
  passes : All (λ p. IsReady (lock_id l.lock) p) l.passes.items;
  rest : All (λ w. IsReady (lock_id l.lock) w.pass) (into_iter_items l.worker-iterator);
}
