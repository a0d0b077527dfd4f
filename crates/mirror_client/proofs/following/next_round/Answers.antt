use Rattle.std.proofs.Common.{refl}
use Rattle.mirror_client.specs.Points.{place}
use Rattle.mirror_client.proofs.ResultFacts.{err_then, ok_then}
use Rattle.mirror_client.proofs.StageFacts.{round_stops, round_walks, unwaited_stops}
use Rattle.mirror_client.proofs.following.next_round.Goals as goal

pub returns-in-Ok-clause-walks : goal.returns-in-Ok-clause-walks
returns-in-Ok-clause-walks g c =
    ok_then c.fetch_next.result c.fetch_next.ensures.walks
    (λ h m rounds ls is so_far more.
    round_walks c.args.follower.now.host c.wait.new.self.host c.args.follower.now.known c.wait.new.self.known m c.args.mirror.now c.fetch_next.new.mirror rounds c.base.result
    _ ls (place (g.K.Sink.taken c.args.link.now) (g.K.Source.left c.args.link.now) c.args.follower.now.ahead)
    (place (g.K.Sink.taken c.wait.new.link) (g.K.Source.left c.wait.new.link) c.wait.new.self.ahead)
    (place (g.K.Sink.taken c.fetch_next.new.link) (g.K.Source.left c.fetch_next.new.link) c.fetch_next.new.follower.ahead) c.fetch_next.new.applied.items c.wait.ensures.stays.0
    c.wait.ensures.stays.1 c.base.ensures more is c.in-Ok.ensures.exchanged (h m rounds ls is so_far))

pub returns-in-Ok-clause-stops : goal.returns-in-Ok-clause-stops
returns-in-Ok-clause-stops g c =
    err_then c.fetch_next.result c.fetch_next.ensures.stops
    (λ e h m rounds ls is more.
    round_stops c.args.follower.now.host c.wait.new.self.host c.args.follower.now.known c.wait.new.self.known m c.args.mirror.now c.fetch_next.new.mirror rounds c.base.result
    _ ls (place (g.K.Sink.taken c.args.link.now) (g.K.Source.left c.args.link.now) c.args.follower.now.ahead)
    (place (g.K.Sink.taken c.wait.new.link) (g.K.Source.left c.wait.new.link) c.wait.new.self.ahead) (g.K.Sink.taken c.fetch_next.new.link) e c.wait.ensures.stays.0
    c.wait.ensures.stays.1 c.base.ensures more is c.in-Ok.ensures.exchanged (h m rounds ls is))

pub returns-in-Err-clause-stops : goal.returns-in-Err-clause-stops
returns-in-Err-clause-stops g c = λ m rounds ls is more.
    unwaited_stops c.args.follower.now.host c.args.follower.now.known m c.args.mirror.now c.args.mirror.now rounds c.base.result ls
    (place (g.K.Sink.taken c.args.link.now) (g.K.Source.left c.args.link.now) c.args.follower.now.ahead) (g.K.Sink.taken c.wait.new.link) c.in-Err.error c.base.ensures
    more is refl c.in-Err.ensures.stops
