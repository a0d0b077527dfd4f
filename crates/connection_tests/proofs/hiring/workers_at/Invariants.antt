use Rattle.std.proofs.Common.{◌≡◌, [], All}
use Rattle.share_lock.specs.Passes.{lock_id, IsReady}
use Rattle.share_workers.specs.declared.worker.WorkerEnd.{WorkerEnd}
use Rattle.connection_tests.proofs.hiring.workers_at.Given as goal

abbrev pub invariant-loop-post : goal.invariant-loop-post
invariant-loop-post g l = record {
  first : IsReady (lock_id l.lock) l.first;
  ready : All (λ w. IsReady (lock_id l.lock) w.pass) l.workers.items;
  running : All (λ w. w.end ≡ WorkerEnd.Running) l.workers.items;
  unreported : All (λ w. w.reports.items ≡ []) l.workers.items;
}
