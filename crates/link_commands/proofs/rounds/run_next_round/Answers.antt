use Rattle.std.proofs.Common.{refl}
use Rattle.command_core.specs.Seen.{output_seen}
use Rattle.mirror_client.specs.Points.{place}
use Rattle.mirror_client.proofs.ResultFacts.{err_then, ok_then}
use Rattle.link_commands.proofs.RoundFacts.{next_ends, next_tells, waiting_ends}
use Rattle.link_commands.proofs.rounds.run_next_round.Goals as goal

pub returns-in-Ok-clause-tells : goal.returns-in-Ok-clause-tells
returns-in-Ok-clause-tells g c =
    ok_then c.run_round.result c.run_round.ensures.tells
    (λ h m rounds ls is more.
    next_tells c.args.follower.now.host c.wait.new.self.host c.args.follower.now.known c.wait.new.self.known m c.args.mirror.now c.run_round.new.mirror rounds c.base.result
    _ ls (place (g.K.Sink.taken c.args.link.now) (g.K.Source.left c.args.link.now) c.args.follower.now.ahead)
    (place (g.K.Sink.taken c.wait.new.link) (g.K.Source.left c.wait.new.link) c.wait.new.self.ahead)
    (place (g.K.Sink.taken c.run_round.new.link) (g.K.Source.left c.run_round.new.link) c.run_round.new.follower.ahead)
    (output_seen (g.W.Sink.taken c.args.output.now) (g.W.Faulted.faults c.args.output.now)) (output_seen (g.W.Sink.taken c.run_round.new.output) (g.W.Faulted.faults c.run_round.new.output))
    c.wait.ensures.stays.0 c.wait.ensures.stays.1 c.base.ensures more is c.in-Ok.ensures.exchanged (h m rounds ls is))

pub returns-in-Ok-clause-ends : goal.returns-in-Ok-clause-ends
returns-in-Ok-clause-ends g c =
    err_then c.run_round.result c.run_round.ensures.ends
    (λ stop h m rounds ls is more.
    next_ends c.args.follower.now.host c.wait.new.self.host c.args.follower.now.known c.wait.new.self.known m c.args.mirror.now c.run_round.new.mirror rounds c.base.result
    _ ls (place (g.K.Sink.taken c.args.link.now) (g.K.Source.left c.args.link.now) c.args.follower.now.ahead)
    (place (g.K.Sink.taken c.wait.new.link) (g.K.Source.left c.wait.new.link) c.wait.new.self.ahead) (g.K.Sink.taken c.run_round.new.link)
    (output_seen (g.W.Sink.taken c.args.output.now) (g.W.Faulted.faults c.args.output.now)) (output_seen (g.W.Sink.taken c.run_round.new.output) (g.W.Faulted.faults c.run_round.new.output))
    stop c.wait.ensures.stays.0 c.wait.ensures.stays.1 c.base.ensures more is c.in-Ok.ensures.exchanged (h m rounds ls is))

pub returns-in-Err-clause-ends : goal.returns-in-Err-clause-ends
returns-in-Err-clause-ends g c = λ m rounds ls is more.
    waiting_ends c.args.follower.now.host c.args.follower.now.known m c.args.mirror.now c.args.mirror.now rounds c.base.result ls
    (place (g.K.Sink.taken c.args.link.now) (g.K.Source.left c.args.link.now) c.args.follower.now.ahead) (g.K.Sink.taken c.wait.new.link)
    (output_seen (g.W.Sink.taken c.args.output.now) (g.W.Faulted.faults c.args.output.now)) c.in-Err.error c.base.ensures more is refl c.in-Err.ensures.stops
