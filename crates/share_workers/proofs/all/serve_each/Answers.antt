use Rattle.std.proofs.Common.{◌≡◌, rules}
use denote.Exit.{no}
use denote.Param.{param}
use denote.Param.Send.{param_send, arg_send}
use Rattle.outside_net.specs.Bounds.{listeners}
use Rattle.share_workers.specs.contracts.worker.Worker.{the_row as worker_row}
use Rattle.share_workers.specs.declared.worker.Worker.{Worker}
use Rattle.share_workers.specs.Workers.{KeepsRole, WorksToEnd}
use Rattle.share_workers.proofs.Crossing.{worker_send, borrowed_sync}
use Rattle.share_workers.proofs.Zipped.{zipped}
use Rattle.share_workers.proofs.all.serve_each.Goals as goal

-- a worker may go to a thread, as its listener may
pub for_each_mut-requires-send-T : goal.for_each_mut-requires-send-T
for_each_mut-requires-send-T g c κs within =
    param_send 1 _ (arg_send _ no (worker_row (param 0 g.row.D)) (worker_send (param 0 g.row.D) c.type_bounds.send-D))

-- threads may share what the work borrows
pub for_each_mut-requires-sync-F : goal.for_each_mut-requires-sync-F
for_each_mut-requires-sync-F g c κs within = record {
  shared = λ x. borrowed_sync (param 1 g.row.R) κs.1.1.1.1.1.1.0 κs.1.1.1.1.1.1.1.0 κs.1.1.1.1.1.1.1.1.0 κs.1.1.1.1.1.1.1.1.1.0 c.type_bounds.sync-R (x.0, (x.1, (x.2, (x.3, tt))));
}

pub returns-clause-roles : goal.returns-clause-roles
returns-clause-roles g c =
    let R : Worker g.row.D.Denot → Worker g.row.D.Denot → Type 0 = KeepsRole in
    zipped R c.args.workers.now c.for_each_mut.new.s (search rules)
    (λ k d less. let at = (c.for_each_mut.ensures k d less).1 in (at.argument.now, at.after_call.now, at.argument_is, at.left, at.call.1))

pub returns-clause-served : goal.returns-clause-served
returns-clause-served g c =
    let R : Worker g.row.D.Denot → Worker g.row.D.Denot → Type 0 = WorksToEnd (listeners g.D.Listener g.D.Faulted) in
    zipped R c.args.workers.now c.for_each_mut.new.s (search rules)
    (λ k d less. let at = (c.for_each_mut.ensures k d less).1 in (at.argument.now, at.after_call.now, at.argument_is, at.left, at.call.2))
