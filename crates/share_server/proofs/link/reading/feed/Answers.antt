use Rattle.std.proofs.Common.{ℕ, ◌++◌, List, take, false, ◌∙◌, subst, arith}
use Rattle.share_lock.specs.Passes.{known}
use Rattle.share_server.specs.Progress.{Ends, BytesServed}
use Rattle.share_server.specs.Losses.{is_loss}
use Rattle.share_server.proofs.Losing.{keeping_then}
use Rattle.share_server.proofs.Stepping.{front_behind, rest_behind}
use Rattle.share_server.proofs.link.reading.feed.Goals as goal

pub loop-done-preserved : goal.loop-done-preserved
loop-done-preserved g c = record {
  within = omega (arith, c.split_at.ensures.back_len, c.in-Ok.ensures.within);
  ready = c.step.ensures.ready;
  idle = c.in-Ok.ensures.idle;
  fed = λ role bytes start midway.
      subst
      (λ (b : List ℕ). BytesServed role b c.args.context.now.limit start.pass (known c.step.new.pass) start.taken (g.K.Sink.taken c.step.new.link) c.step.new.progress.reader c.step.new.progress.served.items)
      (front_behind bytes c.args.piece.now c.split_at.result.1.now c.loop-done.done c.in-Ok.taken c.split_at.ensures.back)
      (c.in-Ok.ensures.steps role (bytes ++ take c.loop-done.done c.args.piece.now) start (c.loop-done.invariant.fed role bytes start midway));
  going = c.in-Ok.ensures.keeping.is_lost;
  keeping =
      keeping_then (g.F.Keeps.keeps c.args.keeper.now) (g.F.Keeps.keeps c.loop-done.keeper) (g.F.Keeps.keeps c.step.new.keeper) (g.F.Keeps.is_lost c.loop-done.keeper) (g.F.Keeps.is_lost c.step.new.keeper)
      (g.F.Keeps.faults c.args.keeper.now) (g.F.Keeps.faults c.loop-done.keeper) (g.F.Keeps.faults c.step.new.keeper) (known c.args.pass.now) (known c.loop-done.pass) (known c.step.new.pass) false c.loop-done.invariant.keeping
      c.in-Ok.ensures.keeping;
  beside = c.step.ensures.beside ∙ c.loop-done.invariant.beside;
  count = c.in-Ok.ensures.count ∙ c.loop-done.invariant.count;
}

pub returns-in-Err-clause-feeds : goal.returns-in-Err-clause-feeds
returns-in-Err-clause-feeds g c = λ role bytes start midway.
    subst
    (λ (b : List ℕ). Ends role b c.args.context.now.limit start.pass (known c.step.new.pass) start.taken (g.K.Sink.taken c.step.new.link) c.step.new.progress.served.items c.in-Err.end)
    (rest_behind bytes c.args.piece.now c.split_at.result.1.now c.loop-done.done c.split_at.ensures.back)
    (c.in-Err.ensures.steps role (bytes ++ take c.loop-done.done c.args.piece.now) start (c.loop-done.invariant.fed role bytes start midway))

pub returns-in-Err-clause-keeping : goal.returns-in-Err-clause-keeping
returns-in-Err-clause-keeping g c =
    keeping_then (g.F.Keeps.keeps c.args.keeper.now) (g.F.Keeps.keeps c.loop-done.keeper) (g.F.Keeps.keeps c.step.new.keeper) (g.F.Keeps.is_lost c.loop-done.keeper) (g.F.Keeps.is_lost c.step.new.keeper)
    (g.F.Keeps.faults c.args.keeper.now) (g.F.Keeps.faults c.loop-done.keeper) (g.F.Keeps.faults c.step.new.keeper) (known c.args.pass.now) (known c.loop-done.pass) (known c.step.new.pass) (is_loss c.in-Err.end) c.loop-done.invariant.keeping
    c.in-Err.ensures.keeping
