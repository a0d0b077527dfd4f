-- The relay begins, goes through its rounds and logs out, or ends at a step of these.
use Rattle.std.proofs.Common.{◌≡◌, ◌<◌, ◌++◌, ◌∷◌, [], ℕ, List, length, length-append, refl, sym, ◌∙◌, subst, arith}
use Rattle.mirror_client.specs.Points.{nothing_read, place}
use Rattle.http_client.specs.Requests.{request_text}
use Rattle.mirror_client.specs.Exchanges.{Exchanged}
use Rattle.mirror_client.specs.Steps.{UnexpectedEnd}
use Rattle.mirror_client.specs.Stopping.{Stops}
use Rattle.share_asks.specs.declared.ask.Want.TheVariants as want
use Rattle.mirror_client.proofs.StageFacts.{not_last}
use Rattle.share_lock.specs.Passes.{known}
use Rattle.relay_share.specs.Ends.{CountsRelay, EndsRelay, end_of}
use Rattle.relay_share.specs.Steps.{Stands}
use Rattle.relay_share.specs.declared.report.Relayed.{Relayed}
use Rattle.relay_share.specs.declared.report.RelayEnd.{RelayEnd}
use Rattle.relay_share.proofs.EndFacts.{begins_as, counts_end, counts_from, ends_as, halts_end, logged_out, not_logged_out, stands_as, unopened}
use Rattle.relay_share.proofs.relaying.relay_rounds.Goals as goal

-- it did not come in
pub returns-in-Err-clause-ends : goal.returns-in-Err-clause-ends
returns-in-Err-clause-ends g c =
    let start = place (g.K.Sink.taken c.args.link.now) (g.K.Source.left c.args.link.now) nothing_read in
    subst (λ (ds : List Relayed). EndsRelay c.args.host.now c.args.rounds start (g.K.Sink.taken c.open.new.link) (known c.args.pass.now) (known c.args.pass.now) ds c.end_of.result)
    (sym c.requires.nothing)
    (subst (EndsRelay c.args.host.now c.args.rounds start (g.K.Sink.taken c.open.new.link) (known c.args.pass.now) (known c.args.pass.now) []) (sym c.end_of.ensures)
    (halts_end c.args.host.now c.args.rounds start (g.K.Sink.taken c.open.new.link) (known c.args.pass.now) (known c.args.pass.now) [] c.in-Err.error
    (unopened c.args.host.now c.args.rounds start (g.K.Sink.taken c.open.new.link) (known c.args.pass.now) c.in-Err.error c.in-Err.ensures.stops)))

pub returns-in-Err-clause-count : goal.returns-in-Err-clause-count
returns-in-Err-clause-count g c =
    subst (CountsRelay (g.K.Faulted.faults c.args.link.now) (g.K.Faulted.faults c.open.new.link)) (sym c.end_of.ensures)
    (counts_end (g.K.Faulted.faults c.args.link.now) (g.K.Faulted.faults c.open.new.link) c.in-Err.error c.in-Err.ensures.count)

-- the first round
pub returns-in-Err-relay_round-clause-ends : goal.returns-in-Err-relay_round-clause-ends
returns-in-Err-relay_round-clause-ends g c =
    let start = place (g.K.Sink.taken c.args.link.now) (g.K.Source.left c.args.link.now) nothing_read in
    let there = place (g.K.Sink.taken c.open.new.link) (g.K.Source.left c.open.new.link) c.in-Ok.follower.ahead in
    ends_as c.args.host.now c.in-Ok.follower.host c.args.rounds start (g.K.Sink.taken c.relay_round.new.link) (known c.args.pass.now) (known c.relay_round.new.pass)
    c.relay_round.new.done.items c.in-Err-relay_round.end c.in-Ok.ensures.opened.1
    (c.in-Err-relay_round.ensures.ends c.args.rounds start (known c.args.pass.now) []
    (begins_as c.args.host.now c.in-Ok.follower.host c.args.rounds start there c.in-Ok.follower.known (known c.args.pass.now) c.args.done.now.items c.new-relay.result
    c.in-Ok.ensures.opened.0 c.in-Ok.ensures.opened.1 c.requires.nothing c.new-relay.ensures))

pub loop-round-init : goal.loop-round-init
loop-round-init g c =
    let start = place (g.K.Sink.taken c.args.link.now) (g.K.Source.left c.args.link.now) nothing_read in
    let there = place (g.K.Sink.taken c.open.new.link) (g.K.Source.left c.open.new.link) c.in-Ok.follower.ahead in
    let w =
    c.in-Ok-relay_round.ensures.goes_on c.args.rounds start (known c.args.pass.now) []
    (begins_as c.args.host.now c.in-Ok.follower.host c.args.rounds start there c.in-Ok.follower.known (known c.args.pass.now) c.args.done.now.items c.new-relay.result
    c.in-Ok.ensures.opened.0 c.in-Ok.ensures.opened.1 c.requires.nothing c.new-relay.ensures) in
    record {
      listings = w.0 ∷ [];
      count = refl;
      within = c.requires.some;
      stands =
          stands_as c.args.host.now c.in-Ok.follower.host c.args.rounds start
          (place (g.K.Sink.taken c.relay_round.new.link) (g.K.Source.left c.relay_round.new.link) c.relay_round.new.follower.ahead) c.in-Ok.follower.known
          c.relay_round.new.follower.known (w.0 ∷ []) (known c.args.pass.now) (known c.relay_round.new.pass) c.relay_round.new.done.items c.relay_round.new.relay
          c.in-Ok.ensures.opened.1 c.relay_round.ensures.stays.1 w.1;
      host = c.relay_round.ensures.stays.0 ∙ c.in-Ok.ensures.opened.1;
      calls = omega (arith, c.relay_round.ensures.calls, c.in-Ok.ensures.opened.2);
      ready = c.relay_round.ensures.ready;
      faultless = c.in-Ok-relay_round.ensures.count ∙ c.in-Ok.ensures.count;
    }

-- a later round
pub returns-in-Err-next_round-clause-ends : goal.returns-in-Err-next_round-clause-ends
returns-in-Err-next_round-clause-ends g c =
    let inv = c.loop-round.invariant in
    let less : length c.loop-round.invariant.listings < c.args.rounds = omega (arith, c.loop-round.invariant.count, c.loop-round-test.true) in
    let start = place (g.K.Sink.taken c.args.link.now) (g.K.Source.left c.args.link.now) nothing_read in
    let there = place (g.K.Sink.taken c.loop-round.link) (g.K.Source.left c.loop-round.link) c.loop-round.follower.ahead in
    ends_as c.args.host.now c.loop-round.follower.host c.args.rounds start (g.K.Sink.taken c.next_round.new.link) (known c.args.pass.now) (known c.next_round.new.pass)
    c.next_round.new.done.items c.in-Err-next_round.end inv.host
    (c.in-Err-next_round.ensures.ends c.args.rounds start (known c.args.pass.now) inv.listings (not_last (length inv.listings) c.args.rounds less)
    (stands_as c.loop-round.follower.host c.args.host.now c.args.rounds start there c.loop-round.follower.known c.loop-round.follower.known inv.listings (known c.args.pass.now)
    (known c.loop-round.pass) c.loop-round.done.items c.loop-round.relay (sym inv.host) refl inv.stands))

pub returns-in-Err-next_round-clause-count : goal.returns-in-Err-next_round-clause-count
returns-in-Err-next_round-clause-count g c =
    counts_from (g.K.Faulted.faults c.args.link.now) (g.K.Faulted.faults c.loop-round.link) (g.K.Faulted.faults c.next_round.new.link) c.in-Err-next_round.end
    c.loop-round.invariant.faultless c.in-Err-next_round.ensures.count

pub loop-round-preserved : goal.loop-round-preserved
loop-round-preserved g c =
    let inv = c.loop-round.invariant in
    let less : length c.loop-round.invariant.listings < c.args.rounds = omega (arith, c.loop-round.invariant.count, c.loop-round-test.true) in
    let start = place (g.K.Sink.taken c.args.link.now) (g.K.Source.left c.args.link.now) nothing_read in
    let there = place (g.K.Sink.taken c.loop-round.link) (g.K.Source.left c.loop-round.link) c.loop-round.follower.ahead in
    let w =
    c.in-Ok-next_round.ensures.goes_on c.args.rounds start (known c.args.pass.now) inv.listings (not_last (length inv.listings) c.args.rounds less)
    (stands_as c.loop-round.follower.host c.args.host.now c.args.rounds start there c.loop-round.follower.known c.loop-round.follower.known inv.listings (known c.args.pass.now)
    (known c.loop-round.pass) c.loop-round.done.items c.loop-round.relay (sym inv.host) refl inv.stands) in
    record {
      listings = inv.listings ++ w.0 ∷ [];
      count = omega (arith, length-append inv.listings (w.0 ∷ []), inv.count);
      within = omega (arith, inv.count, less);
      stands =
          stands_as c.args.host.now c.loop-round.follower.host c.args.rounds start
          (place (g.K.Sink.taken c.next_round.new.link) (g.K.Source.left c.next_round.new.link) c.next_round.new.follower.ahead) c.loop-round.follower.known
          c.next_round.new.follower.known (inv.listings ++ w.0 ∷ []) (known c.args.pass.now) (known c.next_round.new.pass) c.next_round.new.done.items c.next_round.new.relay
          inv.host c.next_round.ensures.stays.1 w.1;
      host = c.next_round.ensures.stays.0 ∙ inv.host;
      calls = omega (arith, c.next_round.ensures.calls, inv.calls);
      ready = c.next_round.ensures.ready;
      faultless = c.in-Ok-next_round.ensures.count ∙ inv.faultless;
    }

-- the logout
pub returns-in-Ok-close-clause-ends : goal.returns-in-Ok-close-clause-ends
returns-in-Ok-close-clause-ends g c =
    let inv = c.loop-round.invariant in
    let all : length c.loop-round.invariant.listings ≡ c.args.rounds =
    omega (arith, c.loop-round.invariant.count, c.loop-round.invariant.within, c.loop-round-test.false) in
    let x = c.in-Ok-close.ensures.exchanged in
    let start = place (g.K.Sink.taken c.args.link.now) (g.K.Source.left c.args.link.now) nothing_read in
    let there = place (g.K.Sink.taken c.loop-round.link) (g.K.Source.left c.loop-round.link) c.loop-round.follower.ahead in
    let gone = place (g.K.Sink.taken c.close.new.link) (g.K.Source.left c.close.new.link) x.1 in
    logged_out c.args.host.now c.args.rounds start c.loop-round.follower.known inv.listings there gone x.0 (known c.args.pass.now) (known c.loop-round.pass) c.loop-round.done.items
    c.loop-round.relay all inv.stands
    (subst (λ (h : List ℕ). Exchanged (request_text (want.Logout c.loop-round.follower.known.session) h) there gone x.0) inv.host x.2) x.3

pub returns-clause-ends : goal.returns-clause-ends
returns-clause-ends g c =
    let inv = c.loop-round.invariant in
    let all : length c.loop-round.invariant.listings ≡ c.args.rounds =
    omega (arith, c.loop-round.invariant.count, c.loop-round.invariant.within, c.loop-round-test.false) in
    let start = place (g.K.Sink.taken c.args.link.now) (g.K.Source.left c.args.link.now) nothing_read in
    let there = place (g.K.Sink.taken c.loop-round.link) (g.K.Source.left c.loop-round.link) c.loop-round.follower.ahead in
    subst (EndsRelay c.args.host.now c.args.rounds start (g.K.Sink.taken c.close.new.link) (known c.args.pass.now) (known c.loop-round.pass) c.loop-round.done.items)
    (sym c.end_of-in-Err-close.ensures)
    (not_logged_out c.args.host.now c.args.rounds start c.loop-round.follower.known inv.listings there (g.K.Sink.taken c.close.new.link) (known c.args.pass.now)
    (known c.loop-round.pass) c.loop-round.done.items c.loop-round.relay c.in-Err-close.error all inv.stands
    (subst (λ (h : List ℕ). Stops (request_text (want.Logout c.loop-round.follower.known.session) h) UnexpectedEnd there (g.K.Sink.taken c.close.new.link) c.in-Err-close.error) inv.host
    c.in-Err-close.ensures.stops))

pub returns-clause-count : goal.returns-clause-count
returns-clause-count g c =
    counts_from (g.K.Faulted.faults c.args.link.now) (g.K.Faulted.faults c.loop-round.link) (g.K.Faulted.faults c.close.new.link) c.end_of-in-Err-close.result
    c.loop-round.invariant.faultless
    (subst (CountsRelay (g.K.Faulted.faults c.loop-round.link) (g.K.Faulted.faults c.close.new.link)) (sym c.end_of-in-Err-close.ensures)
    (counts_end (g.K.Faulted.faults c.loop-round.link) (g.K.Faulted.faults c.close.new.link) c.in-Err-close.error c.in-Err-close.ensures.count))
