use Rattle.std.proofs.Common.{◌≡◌, List, subst, rules}
use Rattle.std.specs.Prelude.{All}
use mir.Syntax.{named, of_param}
use denote.Exit.{no}
use denote.Param.{param}
use denote.Param.Send.{Quiet-if}
use Rattle.share_lock.specs.Passes.{lock_id, IsReady}
use Rattle.share_workers.specs.declared.worker.Worker.{Worker}
use Rattle.share_workers.proofs.Crossing.{lent_send}
use Rattle.share_workers.proofs.all.serve_beside.Goals as goal

-- what the worker and its keeper need may go to a thread
pub join_mut-requires-send-F : goal.join_mut-requires-send-F
join_mut-requires-send-F g c κs within =
    let taken = lent_send (param 2 g.row.R) (param 0 g.row.D) (param 1 g.row.F) κs.1.1.1.1.1.1.1.1.0 κs.1.1.1.1.1.1.1.1.1.0 κs.1.1.1.1.1.1.1.1.1.1.0 κs.1.1.1.1.1.1.1.1.1.1.1.0 κs.1.1.1.1.1.1.1.1.1.1.1.1.0 κs.1.1.1.1.1.1.1.1.1.1.1.1.1.0 (named 12) (named 13) c.type_bounds.sync-R c.type_bounds.send-D c.type_bounds.send-F in
    record {
      owned = λ x vs. taken.owned (x.0, (x.1, (x.2, (x.3, (x.4, (x.5, tt)))))) vs;
      leaving = λ k. Quiet-if (k (of_param 1)) _ _ (λ x w. taken.leaving no (x.0, (x.1, (x.2, (x.3, (x.4, (x.5, tt)))))) w) (λ x w. tt);
    }

pub returns-clause-ready : goal.returns-clause-ready
returns-clause-ready g c =
    let left : c.join_mut.new.g.0.now ≡ c.workers-1.given.0 = search rules in
    subst (λ (ws : List (Worker g.row.D.Denot)). All (λ w. IsReady (lock_id c.args.lock.now) w.pass) ws) left c.join_mut.ensures.1.met.1.0
