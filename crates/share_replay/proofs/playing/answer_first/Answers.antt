use Rattle.std.proofs.Common.{◌∙◌}
use Rattle.share_replay.proofs.StepFacts.{found, part_found, skipped}
use Rattle.share_replay.proofs.playing.answer_first.Goals as goal

pub returns-in-Ok-true-clause-stepped : goal.returns-in-Ok-true-clause-stepped
returns-in-Ok-true-clause-stepped g c = λ yes.
    let l = c.loop-other in
    found l.share.settings c.args.share.now.settings l.share.history c.args.share.now.history c.answer_at.new.share.history l.connections c.args.connections.now c.answer_at.new.connections
    (g.W.Sink.taken l.sink) (g.W.Sink.taken c.args.sink.now) (g.W.Sink.taken c.answer_at.new.sink) l.other l.invariant.settings l.invariant.history l.invariant.connections l.invariant.taken
    c.loop-other-test.true l.invariant.first (c.in-Ok-true.ensures.due ∙ c.in-Ok-true.field-0-test) (c.in-Ok-true.ensures.stepped c.in-Ok-true.field-0-test)

pub returns-in-Err-clause-part : goal.returns-in-Err-clause-part
returns-in-Err-clause-part g c =
    let l = c.loop-other in
    part_found l.share.settings c.args.share.now.settings l.share.history c.args.share.now.history c.answer_at.new.share.history l.connections c.args.connections.now
    (g.W.Sink.taken l.sink) (g.W.Sink.taken c.args.sink.now) (g.W.Sink.taken c.answer_at.new.sink) l.other l.invariant.settings l.invariant.history l.invariant.connections l.invariant.taken
    c.loop-other-test.true l.invariant.first c.in-Err.ensures.part

pub loop-other-preserved : goal.loop-other-preserved
loop-other-preserved g c =
    let l = c.loop-other in
    let rest = c.in-Ok-false.ensures.rests c.in-Ok-false.field-0-test in
    record {
      first =
          skipped l.share.settings c.args.share.now.settings l.share.history c.args.share.now.history l.connections c.args.connections.now l.other l.invariant.settings l.invariant.history
          l.invariant.connections c.loop-other-test.true l.invariant.first (c.in-Ok-false.ensures.due ∙ c.in-Ok-false.field-0-test);
      settings = c.in-Ok-false.ensures.settings ∙ l.invariant.settings;
      history = rest.0 ∙ l.invariant.history;
      connections = rest.1 ∙ l.invariant.connections;
      taken = rest.2 ∙ l.invariant.taken;
      faultless = c.in-Ok-false.ensures.count ∙ l.invariant.faultless;
    }
