-- The turns before the one that answered served nothing, and lost nothing.
use Rattle.std.proofs.Common.{rules, ◌≡◌, true, false, refl, ◌∙◌}
use Rattle.share_lock.specs.Passes.{known}
use Rattle.share_server.proofs.Losing.{keeping_none, keeping_then}
use Rattle.share_server.proofs.Waiting.{serves_none, answers, loses_behind, waits}
use Rattle.share_server.proofs.turns.answers.answer_request.Goals as goal

pub loop-init : goal.loop-init
loop-init g c = record {
  ready = c.requires.ready;
  quiet = serves_none (known c.args.pass.now);
  going = c.requires.going;
  keeping =
      keeping_none (g.F.Keeps.keeps c.args.keeper.now) (g.F.Keeps.is_lost c.args.keeper.now) (g.F.Keeps.faults c.args.keeper.now) (known c.args.pass.now)
      (known c.args.pass.now) c.requires.going (serves_none (known c.args.pass.now));
  taken = refl;
  beside = refl;
  count = refl;
}

pub returns-in-Answered-clause-outcome : goal.returns-in-Answered-clause-outcome
returns-in-Answered-clause-outcome g c =
    answers (known c.args.pass.now) (known c.loop.pass) (known c.turn.new.pass) c.args.ask.now c.in-Answered.answered c.loop.invariant.quiet c.in-Answered.ensures.looked

pub returns-in-Answered-clause-keeping : goal.returns-in-Answered-clause-keeping
returns-in-Answered-clause-keeping g c =
    keeping_then (g.F.Keeps.keeps c.args.keeper.now) (g.F.Keeps.keeps c.loop.keeper) (g.F.Keeps.keeps c.turn.new.keeper) (g.F.Keeps.is_lost c.loop.keeper) (g.F.Keeps.is_lost c.turn.new.keeper)
    (g.F.Keeps.faults c.args.keeper.now) (g.F.Keeps.faults c.loop.keeper) (g.F.Keeps.faults c.turn.new.keeper) (known c.args.pass.now) (known c.loop.pass) (known c.turn.new.pass) false c.loop.invariant.keeping
    c.in-Answered.ensures.keeping

pub returns-then-is_err-clause-keeping : goal.returns-then-is_err-clause-keeping
returns-then-is_err-clause-keeping g c =
    keeping_then (g.F.Keeps.keeps c.args.keeper.now) (g.F.Keeps.keeps c.loop.keeper) (g.F.Keeps.keeps c.turn.new.keeper) (g.F.Keeps.is_lost c.loop.keeper) (g.F.Keeps.is_lost c.turn.new.keeper)
    (g.F.Keeps.faults c.args.keeper.now) (g.F.Keeps.faults c.loop.keeper) (g.F.Keeps.faults c.turn.new.keeper) (known c.args.pass.now) (known c.loop.pass) (known c.turn.new.pass) false c.loop.invariant.keeping
    c.in-Held.ensures.keeping

pub loop-preserved : goal.loop-preserved
loop-preserved g c = record {
  ready = c.in-Held.ensures.ready;
  quiet = waits (known c.args.pass.now) (known c.loop.pass) (known c.turn.new.pass) c.loop.invariant.quiet c.in-Held.ensures.looked.0;
  going = c.in-Held.ensures.keeping.is_lost;
  keeping =
      keeping_then (g.F.Keeps.keeps c.args.keeper.now) (g.F.Keeps.keeps c.loop.keeper) (g.F.Keeps.keeps c.turn.new.keeper) (g.F.Keeps.is_lost c.loop.keeper) (g.F.Keeps.is_lost c.turn.new.keeper)
      (g.F.Keeps.faults c.args.keeper.now) (g.F.Keeps.faults c.loop.keeper) (g.F.Keeps.faults c.turn.new.keeper) (known c.args.pass.now) (known c.loop.pass) (known c.turn.new.pass) false c.loop.invariant.keeping
      c.in-Held.ensures.keeping;
  taken = c.probe.ensures.taken ∙ c.loop.invariant.taken;
  beside = c.probe.ensures.beside ∙ c.loop.invariant.beside;
  count = (let same : g.K.Faulted.faults c.probe.new.self ≡ g.K.Faulted.faults c.loop.link = search rules in same ∙ c.loop.invariant.count);
}

pub returns-in-Lost-clause-keeping : goal.returns-in-Lost-clause-keeping
returns-in-Lost-clause-keeping g c =
    keeping_then (g.F.Keeps.keeps c.args.keeper.now) (g.F.Keeps.keeps c.loop.keeper) (g.F.Keeps.keeps c.turn.new.keeper) (g.F.Keeps.is_lost c.loop.keeper) (g.F.Keeps.is_lost c.turn.new.keeper)
    (g.F.Keeps.faults c.args.keeper.now) (g.F.Keeps.faults c.loop.keeper) (g.F.Keeps.faults c.turn.new.keeper) (known c.args.pass.now) (known c.loop.pass) (known c.turn.new.pass) true c.loop.invariant.keeping
    c.in-Lost.ensures.keeping

pub returns-in-Lost-clause-outcome : goal.returns-in-Lost-clause-outcome
returns-in-Lost-clause-outcome g c =
    loses_behind (known c.args.pass.now) (known c.loop.pass) (known c.turn.new.pass) c.args.ask.now c.loop.invariant.quiet c.in-Lost.ensures.looked

pub returns-in-Answered-clause-taken : goal.returns-in-Answered-clause-taken
returns-in-Answered-clause-taken g c = c.loop.invariant.taken

pub returns-in-Answered-clause-beside : goal.returns-in-Answered-clause-beside
returns-in-Answered-clause-beside g c = c.loop.invariant.beside

pub returns-then-is_err-clause-taken : goal.returns-then-is_err-clause-taken
returns-then-is_err-clause-taken g c = c.probe.ensures.taken ∙ c.loop.invariant.taken

pub returns-then-is_err-clause-beside : goal.returns-then-is_err-clause-beside
returns-then-is_err-clause-beside g c = c.probe.ensures.beside ∙ c.loop.invariant.beside

pub returns-in-Lost-clause-taken : goal.returns-in-Lost-clause-taken
returns-in-Lost-clause-taken g c = c.loop.invariant.taken

pub returns-in-Lost-clause-beside : goal.returns-in-Lost-clause-beside
returns-in-Lost-clause-beside g c = c.loop.invariant.beside
