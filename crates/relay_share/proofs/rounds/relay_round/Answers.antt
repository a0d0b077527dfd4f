-- The body of the answer is applied, or ends the relay.
use Rattle.std.proofs.Common.{sym, subst}
use Rattle.mirror_client.specs.Points.{place}
use Rattle.mirror_client.specs.Steps.{held_after}
use Rattle.relayed_rows.specs.Relays.{nothing_held}
use Rattle.share_lock.specs.Passes.{known}
use Rattle.relay_share.specs.Ends.{EndsRelay}
use Rattle.relay_share.proofs.EndFacts.{counts_on, taken_round, unasked_round, untaken_round}
use Rattle.mirror_client.proofs.ResultFacts.{err_and, ok_then}
use Rattle.relay_share.proofs.RoundFacts.{ascends}
use Rattle.relay_share.proofs.rounds.relay_round.Goals as goal

pub returns-in-Ok-clause-goes_on : goal.returns-in-Ok-clause-goes_on
returns-in-Ok-clause-goes_on g c =
    let x = c.in-Ok.ensures.exchanged in
    ok_then c.take_tag.result c.take_tag.ensures.taken
    (λ h rounds p k ls one.
    taken_round c.args.follower.now.host rounds p c.args.follower.now.known ls c.base.result
    (place (g.K.Sink.taken c.args.link.now) (g.K.Source.left c.args.link.now) c.args.follower.now.ahead)
    (place (g.K.Sink.taken c.body.new.link) (g.K.Source.left c.body.new.link) c.body.new.self.ahead) x.0 c.in-Ok.tag k (known c.args.pass.now) (known c.take_tag.new.pass)
    c.args.done.now.items c.take_tag.new.done.items c.args.relay.now c.take_tag.new.relay one c.base.ensures x.1 x.2 (h (held_after nothing_held ls) (ascends ls) one.holds))

pub returns-in-Ok-clause-ends : goal.returns-in-Ok-clause-ends
returns-in-Ok-clause-ends g c =
    let x = c.in-Ok.ensures.exchanged in
    err_and c.take_tag.result c.take_tag.ensures.untaken c.take_tag.ensures.kept
    (λ end h same rounds p k ls one.
    untaken_round c.args.follower.now.host rounds p c.args.follower.now.known ls c.base.result
    (place (g.K.Sink.taken c.args.link.now) (g.K.Source.left c.args.link.now) c.args.follower.now.ahead)
    (place (g.K.Sink.taken c.body.new.link) (g.K.Source.left c.body.new.link) c.body.new.self.ahead) x.0 c.in-Ok.tag k (known c.args.pass.now) (known c.take_tag.new.pass)
    c.args.done.now.items c.take_tag.new.done.items c.args.relay.now end one c.base.ensures x.1 x.2 (h (held_after nothing_held ls) (ascends ls) one.holds) same)

pub returns-in-Ok-clause-count : goal.returns-in-Ok-clause-count
returns-in-Ok-clause-count g c =
    counts_on (g.K.Faulted.faults c.args.link.now) (g.K.Faulted.faults c.body.new.link) c.take_tag.result c.in-Ok.ensures.count c.take_tag.ensures.faultless

pub returns-in-Err-clause-ends : goal.returns-in-Err-clause-ends
returns-in-Err-clause-ends g c = λ rounds p k ls one.
    subst (EndsRelay c.args.follower.now.host rounds p (g.K.Sink.taken c.body.new.link) k (known c.args.pass.now) c.args.done.now.items) (sym c.end_of.ensures)
    (unasked_round c.args.follower.now.host rounds p c.args.follower.now.known ls c.base.result
    (place (g.K.Sink.taken c.args.link.now) (g.K.Source.left c.args.link.now) c.args.follower.now.ahead) (g.K.Sink.taken c.body.new.link) k (known c.args.pass.now)
    c.args.done.now.items c.args.relay.now c.in-Err.error one c.base.ensures c.in-Err.ensures.stops)
