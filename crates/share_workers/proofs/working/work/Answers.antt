use Rattle.std.proofs.Common.{refl, sym, ap, ◌∙◌}
use Rattle.share_lock.specs.Passes.{known}
use Rattle.share_server.proofs.Losing.{keeping_then}
use Rattle.share_workers.proofs.Keepers.{keeping_as, keeping_same}
use Rattle.share_workers.specs.Steps.{ends_by_loss}
use Rattle.share_workers.proofs.OneMore.{begins, goes, ends, next_on, count_stays}
use Rattle.share_workers.proofs.working.work.Goals as goal

pub loop-end-init : goal.loop-end-init
loop-end-init g c = record {
  ready = c.requires.ready;
  role = refl;
  count = refl;
  under = begins c.args.worker.now.role (known c.args.worker.now.pass) (g.D.Listener.coming c.args.worker.now.listener) (g.D.Listener.written c.args.worker.now.listener) c.args.worker.now.reports.items c.requires.unreported;
  keeping = keeping_same _ _ _ _ _ c.requires.going refl;
}

pub returns-in-Some-clause-served : goal.returns-in-Some-clause-served
returns-in-Some-clause-served g c =
    let inv = c.loop-end.invariant in
    ends _ _ _ _ _ _ _ _ _ _ _ _ _ c.in-Some.end c.in-Some.is inv.count c.serve_next.ensures.count
    (next_on _ _ _ _ _ _ _ _ _ _ _ _ _ _ _ _ inv.role
    (c.serve_next.ensures.served (record { pass = known c.args.worker.now.pass; coming = g.D.Listener.coming c.args.worker.now.listener; written = g.D.Listener.written c.args.worker.now.listener })) inv.under)

pub loop-end-preserved : goal.loop-end-preserved
loop-end-preserved g c =
    let inv = c.loop-end.invariant in record {
      ready = c.serve_next.ensures.ready;
      role = c.serve_next.ensures.role ∙ inv.role;
      count = count_stays _ _ _ c.in_default.is c.serve_next.ensures.count ∙ inv.count;
      under = goes _ _ _ _ _ _ _ _ _ _ c.in_default.is
          (next_on _ _ _ _ _ _ _ _ _ _ _ _ _ _ _ _ inv.role
          (c.serve_next.ensures.served (record { pass = known c.args.worker.now.pass; coming = g.D.Listener.coming c.args.worker.now.listener; written = g.D.Listener.written c.args.worker.now.listener })) inv.under);
      keeping = keeping_then _ _ _ _ _ _ _ _ _ _ _ _ inv.keeping (keeping_as _ _ _ _ _ _ _ _ _ (sym (ap ends_by_loss c.in_default.is)) c.serve_next.ensures.keeping);
    }

pub returns-in-Some-clause-keeping : goal.returns-in-Some-clause-keeping
returns-in-Some-clause-keeping g c =
    keeping_then _ _ _ _ _ _ _ _ _ _ _ _ c.loop-end.invariant.keeping (keeping_as _ _ _ _ _ _ _ _ _ (sym (ap ends_by_loss c.in-Some.is)) c.serve_next.ensures.keeping)

pub serve_next-requires-clause-going : goal.serve_next-requires-clause-going
serve_next-requires-clause-going g c κs within = c.loop-end.invariant.keeping.is_lost
