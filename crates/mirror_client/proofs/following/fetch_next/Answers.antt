use Rattle.mirror_client.specs.Points.{place}
use Rattle.mirror_client.proofs.StageFacts.{listed_lost, listed_one, listed_stops}
use Rattle.mirror_client.proofs.following.fetch_next.Goals as goal

pub returns-in-Ok-push-clause-walks : goal.returns-in-Ok-push-clause-walks
returns-in-Ok-push-clause-walks g c = λ m rounds ls is so_far.
    listed_one c.args.follower.now.host c.args.follower.now.known m c.args.mirror.now c.listing.new.mirror rounds ls
    (place (g.K.Sink.taken c.args.link.now) (g.K.Source.left c.args.link.now) c.args.follower.now.ahead)
    (place (g.K.Sink.taken c.listing.new.link) (g.K.Source.left c.listing.new.link) c.listing.new.self.ahead) c.args.applied.now.items c.push.new.self.items
    c.in-Ok.done c.in-Ok.ensures.exchanged c.in-Ok-push.ensures.items is so_far

pub returns-in-Err-push-clause-stops : goal.returns-in-Err-push-clause-stops
returns-in-Err-push-clause-stops g c = λ m rounds ls is.
    listed_lost c.args.follower.now.host c.args.follower.now.known m c.args.mirror.now c.listing.new.mirror rounds ls
    (place (g.K.Sink.taken c.args.link.now) (g.K.Source.left c.args.link.now) c.args.follower.now.ahead)
    (place (g.K.Sink.taken c.listing.new.link) (g.K.Source.left c.listing.new.link) c.listing.new.self.ahead) c.in-Ok.done c.in-Ok.ensures.exchanged is

pub returns-in-Err-clause-stops : goal.returns-in-Err-clause-stops
returns-in-Err-clause-stops g c = λ m rounds ls is.
    listed_stops c.args.follower.now.host m c.args.mirror.now c.listing.new.mirror rounds c.args.follower.now.known ls
    (place (g.K.Sink.taken c.args.link.now) (g.K.Source.left c.args.link.now) c.args.follower.now.ahead) (g.K.Sink.taken c.listing.new.link) c.in-Err.error is
    c.in-Err.ensures.unchanged c.in-Err.ensures.stops
