use Rattle.std.proofs.Common.{arith}
use Rattle.share_replay.proofs.LoopFacts.{begun_part, line_part, line_played}
use Rattle.share_replay.proofs.playing.play.Goals as goal

pub returns-in-Ok-clause-played : goal.returns-in-Ok-clause-played
returns-in-Ok-clause-played g c =
    let a = c.args in
    let reached = c.reach.new in
    let done = c.settle in
    line_played a.share.now.settings a.line.now c.place_of.result a.share.now.history done.new.share.history a.connections.now reached.connections done.new.connections
    (g.W.Sink.taken a.sink.now) (g.W.Sink.taken reached.sink) (g.W.Sink.taken done.new.sink) done.result c.place_of.ensures c.in-Ok.ensures.reached c.in-Ok.ensures.told done.ensures.settled

pub returns-in-Ok-clause-part : goal.returns-in-Ok-clause-part
returns-in-Ok-clause-part g c =
    let a = c.args in
    let reached = c.reach.new in
    let done = c.settle in
    line_part a.share.now.settings a.line.now c.place_of.result a.share.now.history done.new.share.history a.connections.now reached.connections
    (g.W.Sink.taken a.sink.now) (g.W.Sink.taken reached.sink) (g.W.Sink.taken done.new.sink) done.result c.place_of.ensures c.in-Ok.ensures.reached c.in-Ok.ensures.told done.ensures.part

pub returns-in-Err-clause-part : goal.returns-in-Err-clause-part
returns-in-Err-clause-part g c = λ d start at. (
  0,
  omega arith,
  begun_part c.args.line.now d c.args.share.now.history c.args.connections.now start (g.W.Sink.taken c.args.sink.now) (g.W.Sink.taken c.reach.new.sink) at c.in-Err.ensures.part,
)
