use Rattle.std.proofs.Common.{◌≤◌, ℕ, List, Option, ◌∙◌, subst, arith}
use Rattle.share_replies.specs.Settings.{Settings}
use Rattle.share_replay.specs.Machine.{Desk, answers, most_left}
use Rattle.share_replay.specs.Played.{IsAt, IsPart}
use Rattle.share_replay.proofs.LoopFacts.{settled_more, settled_rests}
use Rattle.share_replay.proofs.MachineFacts.{leads_all, leads_part}
use Rattle.share_replay.proofs.playing.settle.Goals as goal

pub loop-is_due-preserved : goal.loop-is_due-preserved
loop-is_due-preserved g c =
    let l = c.loop-is_due in
    let now = c.answer_one.new in
    let a = c.args in
    record {
      leads =
          settled_more c.in-Ok.was l.share.settings a.share.now.settings a.place a.share.now.history l.share.history now.share.history a.connections.now l.connections now.connections
          (g.W.Sink.taken a.sink.now) (g.W.Sink.taken l.sink) (g.W.Sink.taken now.sink) l.invariant.settings l.invariant.leads c.in-Ok.ensures.stepped c.in-Ok.ensures.rests c.in-Ok.ensures.fewer;
      rests =
          settled_rests c.in-Ok.was l.share.settings a.share.now.settings a.place l.share.history now.share.history l.connections now.connections (g.W.Sink.taken l.sink) (g.W.Sink.taken now.sink)
          l.invariant.settings c.in-Ok.ensures.rests;
      settings = c.answer_one.ensures.settings ∙ l.invariant.settings;
      few = let size = c.answer_one.ensures.size in let few = l.invariant.few in omega (arith, size, few);
      faultless = c.in-Ok.ensures.count ∙ l.invariant.faultless;
    }

pub returns-in-Err-clause-part : goal.returns-in-Err-clause-part
returns-in-Err-clause-part g c =
    let l = c.loop-is_due in
    let now = c.answer_one.new in
    let a = c.args in
    leads_part a.share.now.settings a.place a.share.now.history l.share.history now.share.history a.connections.now l.connections
    (g.W.Sink.taken a.sink.now) (g.W.Sink.taken l.sink) (g.W.Sink.taken now.sink) l.invariant.leads
    (subst (λ (x : Settings). (d : Desk) (start : Option (List ℕ)) → IsAt d l.share.history l.connections start (g.W.Sink.taken l.sink)
    → (k : ℕ) × (k ≤ most_left l.connections) × IsPart (answers x a.place k d) now.share.history start (g.W.Sink.taken now.sink)) l.invariant.settings c.in-Err.ensures.part)

pub returns-clause-settled : goal.returns-clause-settled
returns-clause-settled g c =
    let l = c.loop-is_due in
    let a = c.args in
    leads_all a.share.now.settings a.place a.share.now.history l.share.history a.connections.now l.connections (g.W.Sink.taken a.sink.now) (g.W.Sink.taken l.sink)
    l.invariant.leads (l.invariant.rests c.loop-is_due-test.false)
