use Rattle.std.proofs.Common.{◌<◌, ◌++◌, ◌∷◌, [], length, length-append, refl, sym, ◌∙◌, subst, arith}
use Rattle.mirror_client.specs.Points.{place}
use Rattle.mirror_client.specs.Stages.{Asking, Holding, Walks}
use Rattle.mirror_client.specs.Steps.{Known}
use Rattle.mirror_client.proofs.StageFacts.{later_round, later_stops, not_last}
use Rattle.mirror_client.proofs.following.follow_rounds.Goals as goal

pub returns-in-Err-clause-stops : goal.returns-in-Err-clause-stops
returns-in-Err-clause-stops g c = c.in-Err.ensures.stops c.args.mirror.now c.args.rounds [] refl

pub loop-round-init : goal.loop-round-init
loop-round-init g c =
    let w = c.in-Ok.ensures.walks c.args.mirror.now c.args.rounds [] refl c.requires.none in
    record {
      listings = w.0 ∷ [];
      count = refl;
      within = c.requires.some;
      holds = w.1;
      told = w.2;
      walks =
          subst (λ (k : Known). Walks c.args.follower.now.host c.args.mirror.now c.args.rounds (Asking c.args.follower.now.known [])
          (place (g.K.Sink.taken c.args.link.now) (g.K.Source.left c.args.link.now) c.args.follower.now.ahead) (Holding k (w.0 ∷ []))
          (place (g.K.Sink.taken c.fetch_next.new.link) (g.K.Source.left c.fetch_next.new.link) c.fetch_next.new.follower.ahead)) (sym c.fetch_next.ensures.stays.1) w.3;
      host = c.fetch_next.ensures.stays.0;
      calls = omega (arith, c.fetch_next.ensures.calls, c.requires.uncalled);
      query = c.fetch_next.ensures.query;
      faultless = c.in-Ok.ensures.count;
    }

pub returns-in-Err-next_round-clause-stops : goal.returns-in-Err-next_round-clause-stops
returns-in-Err-next_round-clause-stops g c =
    let inv = c.loop-round.invariant in
    let less : length c.loop-round.invariant.listings < c.args.rounds = omega (arith, c.loop-round.invariant.count, c.loop-round-test.true) in
    later_stops c.args.follower.now.host c.loop-round.follower.host c.args.mirror.now c.next_round.new.mirror c.args.rounds c.args.follower.now.known c.loop-round.follower.known inv.listings
    (place (g.K.Sink.taken c.args.link.now) (g.K.Source.left c.args.link.now) c.args.follower.now.ahead)
    (place (g.K.Sink.taken c.loop-round.link) (g.K.Source.left c.loop-round.link) c.loop-round.follower.ahead) (g.K.Sink.taken c.next_round.new.link) c.in-Err-next_round.error
    inv.walks inv.host
    (c.in-Err-next_round.ensures.stops c.args.mirror.now c.args.rounds inv.listings inv.holds (not_last (length inv.listings) c.args.rounds less))

pub loop-round-preserved : goal.loop-round-preserved
loop-round-preserved g c =
    let inv = c.loop-round.invariant in
    let less : length c.loop-round.invariant.listings < c.args.rounds = omega (arith, c.loop-round.invariant.count, c.loop-round-test.true) in
    let w = c.in-Ok-next_round.ensures.walks c.args.mirror.now c.args.rounds inv.listings inv.holds inv.told (not_last (length inv.listings) c.args.rounds less) in
    record {
      listings = inv.listings ++ w.0 ∷ [];
      count = omega (arith, length-append inv.listings (w.0 ∷ []), inv.count);
      within = omega (arith, inv.count, less);
      holds = w.1;
      told = w.2;
      walks =
          later_round c.args.follower.now.host c.loop-round.follower.host c.args.mirror.now c.args.rounds c.args.follower.now.known c.loop-round.follower.known c.next_round.new.follower.known
          inv.listings w.0 (place (g.K.Sink.taken c.args.link.now) (g.K.Source.left c.args.link.now) c.args.follower.now.ahead)
          (place (g.K.Sink.taken c.loop-round.link) (g.K.Source.left c.loop-round.link) c.loop-round.follower.ahead)
          (place (g.K.Sink.taken c.next_round.new.link) (g.K.Source.left c.next_round.new.link) c.next_round.new.follower.ahead) inv.walks inv.host
          c.next_round.ensures.stays.1 w.3;
      host = c.next_round.ensures.stays.0 ∙ inv.host;
      calls = omega (arith, c.next_round.ensures.calls, inv.calls);
      query = c.next_round.ensures.query ∙ inv.query;
      faultless = c.in-Ok-next_round.ensures.count ∙ inv.faultless;
    }

pub returns-clause-walks : goal.returns-clause-walks
returns-clause-walks g c =
    let inv = c.loop-round.invariant in (
      inv.listings,
      omega (arith, c.loop-round.invariant.count, c.loop-round.invariant.within, c.loop-round-test.false),
      inv.holds,
      inv.told,
      inv.walks,
    )
