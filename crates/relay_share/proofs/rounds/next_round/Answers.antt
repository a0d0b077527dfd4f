-- After another revision a round is done, or ends the relay.
use Rattle.std.proofs.Common.{sym, subst}
use Rattle.mirror_client.specs.Points.{place}
use Rattle.share_lock.specs.Passes.{known}
use Rattle.relay_share.specs.Ends.{EndsRelay}
use Rattle.relay_share.proofs.EndFacts.{finishes_as, rounds_as, unwaited, waited}
use Rattle.mirror_client.proofs.ResultFacts.{err_then, ok_then}
use Rattle.relay_share.proofs.rounds.next_round.Goals as goal

pub returns-in-Ok-clause-goes_on : goal.returns-in-Ok-clause-goes_on
returns-in-Ok-clause-goes_on g c =
    let x = c.in-Ok.ensures.exchanged in
    ok_then c.relay_round.result c.relay_round.ensures.goes_on
    (λ h rounds p k ls more one.
    let start = place (g.K.Sink.taken c.args.link.now) (g.K.Source.left c.args.link.now) c.args.follower.now.ahead in
    let middle = place (g.K.Sink.taken c.wait.new.link) (g.K.Source.left c.wait.new.link) c.wait.new.self.ahead in
    rounds_as rounds p middle (place (g.K.Sink.taken c.relay_round.new.link) (g.K.Source.left c.relay_round.new.link) c.relay_round.new.follower.ahead)
    (g.K.Sink.taken c.relay_round.new.link) k (known c.args.pass.now) (known c.relay_round.new.pass) c.args.done.now.items c.relay_round.new.done.items c.args.relay.now
    c.relay_round.new.relay ls c.args.follower.now.host c.wait.new.self.host c.args.follower.now.known c.wait.new.self.known c.wait.ensures.stays.0 c.wait.ensures.stays.1
    (h rounds p k ls)
    (waited c.args.follower.now.host rounds _ p c.args.follower.now.known ls c.base.result start middle x.0 k (known c.args.pass.now) c.args.done.now.items c.args.relay.now more one
    c.base.ensures x.1 x.2))

pub returns-in-Ok-clause-ends : goal.returns-in-Ok-clause-ends
returns-in-Ok-clause-ends g c =
    let x = c.in-Ok.ensures.exchanged in
    err_then c.relay_round.result c.relay_round.ensures.ends
    (λ end h rounds p k ls more one.
    let start = place (g.K.Sink.taken c.args.link.now) (g.K.Source.left c.args.link.now) c.args.follower.now.ahead in
    let middle = place (g.K.Sink.taken c.wait.new.link) (g.K.Source.left c.wait.new.link) c.wait.new.self.ahead in
    finishes_as rounds p middle (place (g.K.Sink.taken c.relay_round.new.link) (g.K.Source.left c.relay_round.new.link) c.relay_round.new.follower.ahead)
    (g.K.Sink.taken c.relay_round.new.link) k (known c.args.pass.now) (known c.relay_round.new.pass) c.args.done.now.items c.relay_round.new.done.items c.args.relay.now
    c.relay_round.new.relay ls end c.args.follower.now.host c.wait.new.self.host c.args.follower.now.known c.wait.new.self.known c.wait.ensures.stays.0 c.wait.ensures.stays.1
    (h rounds p k ls)
    (waited c.args.follower.now.host rounds _ p c.args.follower.now.known ls c.base.result start middle x.0 k (known c.args.pass.now) c.args.done.now.items c.args.relay.now more one
    c.base.ensures x.1 x.2))

pub returns-in-Err-clause-ends : goal.returns-in-Err-clause-ends
returns-in-Err-clause-ends g c = λ rounds p k ls more one.
    subst (EndsRelay c.args.follower.now.host rounds p (g.K.Sink.taken c.wait.new.link) k (known c.args.pass.now) c.args.done.now.items) (sym c.end_of.ensures)
    (unwaited c.args.follower.now.host rounds p c.args.follower.now.known ls c.base.result
    (place (g.K.Sink.taken c.args.link.now) (g.K.Source.left c.args.link.now) c.args.follower.now.ahead) (g.K.Sink.taken c.wait.new.link) k (known c.args.pass.now)
    c.args.done.now.items c.args.relay.now c.in-Err.error more one c.base.ensures c.in-Err.ensures.stops)
