use Rattle.std.proofs.Common.{ℕ, false, ◌∙◌, subst, refl}
use Rattle.share_lock.specs.Passes.{known}
use Rattle.share_server.specs.Serving.{CountsEnd}
use Rattle.share_server.specs.Losses.{is_loss}
use Rattle.share_server.proofs.Losing.{keeping_then}
use Rattle.share_server.proofs.Waiting.{keeping_yet}
use Rattle.share_server.proofs.link.serving.pump_to_end.Goals as goal

pub loop-init : goal.loop-init
loop-init g c = record {
  ready = c.requires.ready;
  idle = c.requires.idle;
  under = λ role start under. under;
  going = c.requires.going;
  keeping =
      keeping_yet (g.F.Keeps.keeps c.args.keeper.now) (g.F.Keeps.is_lost c.args.keeper.now) (g.F.Keeps.faults c.args.keeper.now) (known c.args.pass.now)
      false c.requires.going refl;
  count = refl;
}

pub loop-preserved : goal.loop-preserved
loop-preserved g c =
    let inv = c.loop.invariant in
    record {
      ready = c.pump.ensures.ready;
      idle = c.in-None-pump.ensures.idle refl;
      under = λ role start under. c.in-None-pump.ensures.pumps role start (inv.under role start under);
      going = c.in-None-pump.ensures.keeping.is_lost;
      keeping =
          keeping_then (g.F.Keeps.keeps c.args.keeper.now) (g.F.Keeps.keeps c.loop.keeper) (g.F.Keeps.keeps c.pump.new.keeper) (g.F.Keeps.is_lost c.loop.keeper)
          (g.F.Keeps.is_lost c.pump.new.keeper) (g.F.Keeps.faults c.args.keeper.now) (g.F.Keeps.faults c.loop.keeper) (g.F.Keeps.faults c.pump.new.keeper)
          (known c.args.pass.now) (known c.loop.pass) (known c.pump.new.pass) false inv.keeping c.in-None-pump.ensures.keeping;
      count = c.in-None-pump.ensures.count ∙ inv.count;
    }

pub returns-in-Some-pump-clause-ended : goal.returns-in-Some-pump-clause-ended
returns-in-Some-pump-clause-ended g c = λ role start under.
    c.in-Some-pump.ensures.pumps role start (c.loop.invariant.under role start under)

pub returns-in-Some-pump-clause-count : goal.returns-in-Some-pump-clause-count
returns-in-Some-pump-clause-count g c =
    subst (λ (n : ℕ). CountsEnd n (g.K.Faulted.faults c.pump.new.link) c.in-Some-pump.end) c.loop.invariant.count c.in-Some-pump.ensures.count

pub returns-in-Some-pump-clause-keeping : goal.returns-in-Some-pump-clause-keeping
returns-in-Some-pump-clause-keeping g c =
    keeping_then (g.F.Keeps.keeps c.args.keeper.now) (g.F.Keeps.keeps c.loop.keeper) (g.F.Keeps.keeps c.pump.new.keeper) (g.F.Keeps.is_lost c.loop.keeper) (g.F.Keeps.is_lost c.pump.new.keeper)
    (g.F.Keeps.faults c.args.keeper.now) (g.F.Keeps.faults c.loop.keeper) (g.F.Keeps.faults c.pump.new.keeper) (known c.args.pass.now) (known c.loop.pass) (known c.pump.new.pass) (is_loss c.in-Some-pump.end) c.loop.invariant.keeping
    c.in-Some-pump.ensures.keeping
