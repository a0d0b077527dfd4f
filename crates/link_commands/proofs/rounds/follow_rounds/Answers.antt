use Rattle.std.proofs.Common.{◌≡◌, ◌<◌, ◌++◌, ◌∷◌, [], ℕ, length, length-append, refl, subst, ◌∙◌, arith, eq-eqb, Ok}
use Rattle.command_core.specs.Seen.{OutputSeen, output_seen}
use Rattle.command_core.proofs.Appending.{none_written}
use Rattle.mirror_client.specs.Points.{Point, nothing_read, place}
use Rattle.mirror_client.specs.Stages.{Asking, Holding}
use Rattle.mirror_client.specs.Steps.{all_applied}
use Rattle.mirror_client.specs.Stopping.{CountsFault}
use Rattle.mirror_client.proofs.StageFacts.{followed_by, not_last, opened_walks}
use Rattle.link_commands.specs.Linked.{LinkSeen, link_seen}
use Rattle.link_commands.specs.Rounds.{CountsStop}
use Rattle.link_commands.specs.declared.rounds.Stop.TheVariants.{Link}
use Rattle.link_commands.proofs.RoundFacts.{closing_ends, first_round, later_round, line_written, opening_ends, round_ends, round_on}
use Rattle.link_commands.proofs.rounds.follow_rounds.Goals as goal

-- the table was not learned, or the login failed
pub returns-in-Err-clause-ends : goal.returns-in-Err-clause-ends
returns-in-Err-clause-ends g c =
    let link : LinkSeen = link_seen (g.K.Sink.taken c.args.link.now) (g.K.Source.left c.args.link.now) (g.K.Sink.taken c.open.new.link) (g.K.Faulted.faults c.open.new.link) in
    opening_ends c.args.host.now c.args.mirror.now c.args.rounds link (output_seen (g.W.Sink.taken c.args.output.now) (g.W.Faulted.faults c.args.output.now)) c.in-Err.error
    c.in-Err.ensures.stops (subst (λ (n : ℕ). CountsFault n (g.K.Faulted.faults c.open.new.link) c.in-Err.error) c.requires.fresh c.in-Err.ensures.count)

pub returns-in-Err-run_round-clause-ends : goal.returns-in-Err-run_round-clause-ends
returns-in-Err-run_round-clause-ends g c =
    let link : LinkSeen = link_seen (g.K.Sink.taken c.args.link.now) (g.K.Source.left c.args.link.now) (g.K.Sink.taken c.run_round.new.link) (g.K.Faulted.faults c.run_round.new.link) in
    let before : OutputSeen = output_seen (g.W.Sink.taken c.args.output.now) (g.W.Faulted.faults c.args.output.now) in
    let after : OutputSeen = output_seen (g.W.Sink.taken c.run_round.new.output) (g.W.Faulted.faults c.run_round.new.output) in
    let p : Point = place (g.K.Sink.taken c.args.link.now) (g.K.Source.left c.args.link.now) nothing_read in
    let mid : Point = place (g.K.Sink.taken c.open.new.link) (g.K.Source.left c.open.new.link) c.in-Ok.follower.ahead in
    round_ends c.args.host.now c.in-Ok.follower.known c.args.mirror.now c.run_round.new.mirror c.args.rounds [] (Asking c.in-Ok.follower.known []) mid link before before after
    c.in-Err-run_round.stop (opened_walks c.args.host.now c.args.mirror.now c.args.rounds p mid c.in-Ok.follower.known c.in-Ok.ensures.opened.0) (none_written before)
    (round_on c.in-Ok.follower.host c.args.host.now c.in-Ok.follower.known c.args.mirror.now c.run_round.new.mirror c.args.rounds [] (Asking c.in-Ok.follower.known []) mid link.taken before after
    c.in-Err-run_round.stop c.in-Ok.ensures.opened.1 (c.in-Err-run_round.ensures.ends c.args.mirror.now c.args.rounds [] refl))
    (subst (λ (n : ℕ). CountsStop n (g.K.Faulted.faults c.run_round.new.link) c.in-Err-run_round.stop) (c.in-Ok.ensures.count ∙ c.requires.fresh) c.in-Err-run_round.ensures.count)

pub loop-round-init : goal.loop-round-init
loop-round-init g c =
    let w = c.in-Ok-run_round.ensures.tells c.args.mirror.now c.args.rounds [] refl in
    let before : OutputSeen = output_seen (g.W.Sink.taken c.args.output.now) (g.W.Faulted.faults c.args.output.now) in
    let after : OutputSeen = output_seen (g.W.Sink.taken c.run_round.new.output) (g.W.Faulted.faults c.run_round.new.output) in
    record {
      listings = w.listing ∷ [];
      count = refl;
      within = c.requires.some;
      holds = w.holds;
      walks =
          first_round c.args.host.now c.in-Ok.follower.host c.args.mirror.now c.args.rounds c.in-Ok.follower.known c.run_round.new.follower.known w.listing
          (place (g.K.Sink.taken c.args.link.now) (g.K.Source.left c.args.link.now) nothing_read) (place (g.K.Sink.taken c.open.new.link) (g.K.Source.left c.open.new.link) c.in-Ok.follower.ahead)
          (place (g.K.Sink.taken c.run_round.new.link) (g.K.Source.left c.run_round.new.link) c.run_round.new.follower.ahead) c.in-Ok.ensures.opened.0
          c.in-Ok.ensures.opened.1 c.run_round.ensures.stays.1 w.walks;
      host = c.run_round.ensures.stays.0 ∙ c.in-Ok.ensures.opened.1;
      calls = omega (arith, c.run_round.ensures.calls, c.in-Ok.ensures.opened.2);
      query = c.run_round.ensures.query;
      faultless = c.in-Ok-run_round.ensures.count ∙ c.in-Ok.ensures.count;
      told = line_written c.args.mirror.now [] w.listing w.done before before after w.told (none_written before) w.line;
    }

pub returns-in-Err-run_next_round-clause-ends : goal.returns-in-Err-run_next_round-clause-ends
returns-in-Err-run_next_round-clause-ends g c =
    let inv = c.loop-round.invariant in
    let less : length c.loop-round.invariant.listings < c.args.rounds = omega (arith, c.loop-round.invariant.count, c.loop-round-test.true) in
    let link : LinkSeen = link_seen (g.K.Sink.taken c.args.link.now) (g.K.Source.left c.args.link.now) (g.K.Sink.taken c.run_next_round.new.link) (g.K.Faulted.faults c.run_next_round.new.link) in
    let start : OutputSeen = output_seen (g.W.Sink.taken c.args.output.now) (g.W.Faulted.faults c.args.output.now) in
    let before : OutputSeen = output_seen (g.W.Sink.taken c.loop-round.output) (g.W.Faulted.faults c.loop-round.output) in
    let after : OutputSeen = output_seen (g.W.Sink.taken c.run_next_round.new.output) (g.W.Faulted.faults c.run_next_round.new.output) in
    let mid : Point = place (g.K.Sink.taken c.loop-round.link) (g.K.Source.left c.loop-round.link) c.loop-round.follower.ahead in
    round_ends c.args.host.now c.loop-round.follower.known c.args.mirror.now c.run_next_round.new.mirror c.args.rounds inv.listings (Holding c.loop-round.follower.known inv.listings) mid link
    start before after c.in-Err-run_next_round.stop inv.walks inv.told
    (round_on c.loop-round.follower.host c.args.host.now c.loop-round.follower.known c.args.mirror.now c.run_next_round.new.mirror c.args.rounds inv.listings
    (Holding c.loop-round.follower.known inv.listings) mid link.taken before after c.in-Err-run_next_round.stop inv.host
    (c.in-Err-run_next_round.ensures.ends c.args.mirror.now c.args.rounds inv.listings inv.holds (not_last (length inv.listings) c.args.rounds less)))
    (subst (λ (n : ℕ). CountsStop n (g.K.Faulted.faults c.run_next_round.new.link) c.in-Err-run_next_round.stop) (inv.faultless ∙ c.requires.fresh) c.in-Err-run_next_round.ensures.count)

pub loop-round-preserved : goal.loop-round-preserved
loop-round-preserved g c =
    let inv = c.loop-round.invariant in
    let less : length c.loop-round.invariant.listings < c.args.rounds = omega (arith, c.loop-round.invariant.count, c.loop-round-test.true) in
    let w = c.in-Ok-run_next_round.ensures.tells c.args.mirror.now c.args.rounds inv.listings inv.holds (not_last (length inv.listings) c.args.rounds less) in
    let start : OutputSeen = output_seen (g.W.Sink.taken c.args.output.now) (g.W.Faulted.faults c.args.output.now) in
    let before : OutputSeen = output_seen (g.W.Sink.taken c.loop-round.output) (g.W.Faulted.faults c.loop-round.output) in
    let after : OutputSeen = output_seen (g.W.Sink.taken c.run_next_round.new.output) (g.W.Faulted.faults c.run_next_round.new.output) in
    record {
      listings = inv.listings ++ w.listing ∷ [];
      count = omega (arith, length-append inv.listings (w.listing ∷ []), inv.count);
      within = omega (arith, inv.count, less);
      holds = w.holds;
      walks =
          later_round c.args.host.now c.loop-round.follower.host c.args.mirror.now c.args.rounds c.loop-round.follower.known c.run_next_round.new.follower.known inv.listings w.listing
          (place (g.K.Sink.taken c.args.link.now) (g.K.Source.left c.args.link.now) nothing_read) (place (g.K.Sink.taken c.loop-round.link) (g.K.Source.left c.loop-round.link) c.loop-round.follower.ahead)
          (place (g.K.Sink.taken c.run_next_round.new.link) (g.K.Source.left c.run_next_round.new.link) c.run_next_round.new.follower.ahead) inv.walks inv.host
          c.run_next_round.ensures.stays.1 w.walks;
      host = c.run_next_round.ensures.stays.0 ∙ inv.host;
      calls = omega (arith, c.run_next_round.ensures.calls, inv.calls);
      query = c.run_next_round.ensures.query ∙ inv.query;
      faultless = c.in-Ok-run_next_round.ensures.count ∙ inv.faultless;
      told = line_written c.args.mirror.now inv.listings w.listing w.done start before after w.told inv.told w.line;
    }

pub returns-in-Ok-close-clause-followed : goal.returns-in-Ok-close-clause-followed
returns-in-Ok-close-clause-followed g c =
    let inv = c.loop-round.invariant in
    let all : length c.loop-round.invariant.listings ≡ c.args.rounds =
    omega (arith, c.loop-round.invariant.count, c.loop-round.invariant.within, c.loop-round-test.false) in
    let x = c.in-Ok-close.ensures.exchanged in (
      all_applied c.args.mirror.now.held inv.listings,
      record {
        followed =
            followed_by {A = Unit} c.args.host.now c.loop-round.follower.host c.args.mirror.now c.loop-round.mirror c.args.rounds c.loop-round.follower.known inv.listings
            (place (g.K.Sink.taken c.args.link.now) (g.K.Source.left c.args.link.now) nothing_read)
            (place (g.K.Sink.taken c.loop-round.link) (g.K.Source.left c.loop-round.link) c.loop-round.follower.ahead) (g.K.Sink.taken c.close.new.link) (g.K.Source.left c.close.new.link)
            (all_applied c.args.mirror.now.held inv.listings) (Ok tt) inv.host all inv.walks inv.holds refl x;
        some = c.requires.some;
        faultless = c.in-Ok-close.ensures.count ∙ inv.faultless ∙ c.requires.fresh;
      },
      inv.told,
    )

pub returns-in-Err-close-clause-ends : goal.returns-in-Err-close-clause-ends
returns-in-Err-close-clause-ends g c =
    let inv = c.loop-round.invariant in
    let all : length c.loop-round.invariant.listings ≡ c.args.rounds =
    omega (arith, c.loop-round.invariant.count, c.loop-round.invariant.within, c.loop-round-test.false) in
    let link : LinkSeen = link_seen (g.K.Sink.taken c.args.link.now) (g.K.Source.left c.args.link.now) (g.K.Sink.taken c.close.new.link) (g.K.Faulted.faults c.close.new.link) in
    let start : OutputSeen = output_seen (g.W.Sink.taken c.args.output.now) (g.W.Faulted.faults c.args.output.now) in
    let before : OutputSeen = output_seen (g.W.Sink.taken c.loop-round.output) (g.W.Faulted.faults c.loop-round.output) in
    let mid : Point = place (g.K.Sink.taken c.loop-round.link) (g.K.Source.left c.loop-round.link) c.loop-round.follower.ahead in
    round_ends c.args.host.now c.loop-round.follower.known c.args.mirror.now c.loop-round.mirror c.args.rounds inv.listings (Holding c.loop-round.follower.known inv.listings) mid link
    start before before (Link c.in-Err-close.error) inv.walks inv.told
    (round_on c.loop-round.follower.host c.args.host.now c.loop-round.follower.known c.args.mirror.now c.loop-round.mirror c.args.rounds inv.listings
    (Holding c.loop-round.follower.known inv.listings) mid link.taken before before (Link c.in-Err-close.error) inv.host
    (closing_ends c.loop-round.follower.host c.args.mirror.now c.loop-round.mirror c.args.rounds c.loop-round.follower.known inv.listings mid link.taken before c.in-Err-close.error
    (eq-eqb (length inv.listings) c.args.rounds all) inv.holds c.in-Err-close.ensures.stops))
    (subst (λ (n : ℕ). CountsFault n (g.K.Faulted.faults c.close.new.link) c.in-Err-close.error) (inv.faultless ∙ c.requires.fresh) c.in-Err-close.ensures.count)
