use Rattle.std.proofs.Common.{◌≡◌, [], All, sym, subst}
use Rattle.std.proofs.lemmas.List.Elements.{All-push}
use Rattle.share_lock.specs.Passes.{lock_id, IsReady}
use Rattle.share_workers.specs.declared.worker.WorkerEnd.{WorkerEnd}
use Rattle.connection_tests.proofs.hiring.workers_at.Goals as goal

pub loop-post-preserved : goal.loop-post-preserved
loop-post-preserved g c =
    let id = lock_id c.args.lock.now in
    let inv = c.loop-post.invariant in
    let xs = c.loop-post.workers.items in
    let made = c.worker_at.result in
    let has = c.worker_at.ensures in
    let items = sym c.in_ok-push.ensures.items in record {
      first = has.first;
      ready = subst (All (λ w. IsReady id w.pass)) items (All-push (λ w. IsReady id w.pass) xs made inv.ready has.ready);
      running = subst (All (λ w. w.end ≡ WorkerEnd.Running)) items (All-push (λ w. w.end ≡ WorkerEnd.Running) xs made inv.running has.running);
      unreported = subst (All (λ w. w.reports.items ≡ [])) items (All-push (λ w. w.reports.items ≡ []) xs made inv.unreported has.unreported);
    }
