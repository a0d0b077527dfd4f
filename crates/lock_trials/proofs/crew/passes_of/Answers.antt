use Rattle.std.proofs.Common.{◌≡◌, suc, [], ◌∷◌, sym, subst, arith}
use Rattle.std.proofs.lemmas.List.Elements.{All-append}
use Rattle.std.specs.Prelude.{All}
use Rattle.share_lock.specs.Passes.{lock_id, IsReady}
use Rattle.lock_trials.specs.Gathered.{NumbersPass}
use Rattle.lock_trials.proofs.Joining.{one}
use Rattle.lock_trials.specs.declared.work.Worker.{Worker}
use Rattle.lock_trials.proofs.crew.passes_of.Goals as goal

pub loop-worker-preserved : goal.loop-worker-preserved
loop-worker-preserved c =
    let id = lock_id c.args.lock.now in
    let rest = subst (All (λ (w : Worker). IsReady id w.pass)) c.in-Some.ensures.steps.0 c.loop-worker.invariant.rest in record {
      passes = subst (All (λ (p : NumbersPass). IsReady id p)) (sym c.in_ok-push.ensures.items)
          (All-append (λ p. IsReady id p) c.loop-worker.passes.items (c.in-Some.worker.pass ∷ []) c.loop-worker.invariant.passes (one (λ p. IsReady id p) c.in-Some.worker.pass (rest 0 c.in-Some.worker (omega arith))));
      rest = λ k d less. rest (suc k) d (omega arith);
    }
