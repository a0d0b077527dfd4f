use Rattle.command_core.specs.Seen.{output_seen}
use Rattle.mirror_client.specs.Points.{place}
use Rattle.link_commands.proofs.RoundFacts.{line_ends, listing_ends, listing_tells, on_err, on_ok}
use Rattle.link_commands.proofs.rounds.run_round.Goals as goal

pub returns-in-Ok-clause-tells : goal.returns-in-Ok-clause-tells
returns-in-Ok-clause-tells g c =
    on_ok _ _ c.write_round.result c.write_round.ensures
    (λ a line m rounds ls is.
    listing_tells c.args.follower.now.host c.args.follower.now.known m c.args.mirror.now c.listing.new.mirror rounds ls
    (place (g.K.Sink.taken c.args.link.now) (g.K.Source.left c.args.link.now) c.args.follower.now.ahead)
    (place (g.K.Sink.taken c.listing.new.link) (g.K.Source.left c.listing.new.link) c.listing.new.self.ahead)
    (output_seen (g.W.Sink.taken c.args.output.now) (g.W.Faulted.faults c.args.output.now)) (output_seen (g.W.Sink.taken c.write_round.new.output) (g.W.Faulted.faults c.write_round.new.output))
    c.in-Ok.done c.in-Ok.ensures.exchanged is line)

pub returns-in-Ok-clause-ends : goal.returns-in-Ok-clause-ends
returns-in-Ok-clause-ends g c =
    on_err _ _ c.write_round.result c.write_round.ensures
    (λ stop ends m rounds ls is.
    line_ends c.args.follower.now.host c.args.follower.now.known m c.args.mirror.now c.listing.new.mirror rounds ls
    (place (g.K.Sink.taken c.args.link.now) (g.K.Source.left c.args.link.now) c.args.follower.now.ahead)
    (place (g.K.Sink.taken c.listing.new.link) (g.K.Source.left c.listing.new.link) c.listing.new.self.ahead)
    (output_seen (g.W.Sink.taken c.args.output.now) (g.W.Faulted.faults c.args.output.now)) (output_seen (g.W.Sink.taken c.write_round.new.output) (g.W.Faulted.faults c.write_round.new.output))
    c.in-Ok.done stop c.in-Ok.ensures.exchanged is ends)

pub returns-in-Err-clause-ends : goal.returns-in-Err-clause-ends
returns-in-Err-clause-ends g c = λ m rounds ls is.
    listing_ends c.args.follower.now.host c.args.follower.now.known m c.args.mirror.now c.listing.new.mirror rounds ls
    (place (g.K.Sink.taken c.args.link.now) (g.K.Source.left c.args.link.now) c.args.follower.now.ahead) (g.K.Sink.taken c.listing.new.link)
    (output_seen (g.W.Sink.taken c.args.output.now) (g.W.Faulted.faults c.args.output.now)) c.in-Err.error is c.in-Err.ensures.unchanged c.in-Err.ensures.stops
