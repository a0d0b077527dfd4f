use Rattle.std.proofs.Common.{◌≡◌, ◌-◌, false, vec_len}
use Rattle.share_lock.specs.Passes.{lock_id, known, IsReady}
use Rattle.share_server.specs.Kept.{Keeping}
use Rattle.share_workers.specs.Steps.{Underway}
use Rattle.share_workers.proofs.working.work.Given as goal

abbrev pub invariant-loop-end : goal.invariant-loop-end
invariant-loop-end g l = record {
  ready : IsReady (lock_id l.context.lock.now) l.worker.pass;
  role : l.worker.role ≡ l.fn.worker.role;
  count : g.D.Faulted.faults l.worker.listener ≡ g.D.Faulted.faults l.fn.worker.listener;
  under : Underway l.fn.worker.role (known l.fn.worker.pass) (known l.worker.pass) (g.D.Listener.coming l.fn.worker.listener) (g.D.Listener.coming l.worker.listener) (g.D.Listener.written l.fn.worker.listener) (g.D.Listener.written l.worker.listener) l.worker.reports.items l.budget;
  keeping : Keeping (g.F.Keeps.keeps l.fn.keeper) (g.F.Keeps.keeps l.keeper) (g.F.Keeps.is_lost l.keeper) (g.F.Keeps.faults l.fn.keeper) (g.F.Keeps.faults l.keeper) (known l.fn.worker.pass) (known l.worker.pass) false;
}

abbrev pub decreases-loop-end : goal.decreases-loop-end
decreases-loop-end g l = 65536 - vec_len l.worker.reports
