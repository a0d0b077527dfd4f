use Rattle.std.proofs.Common.{[], ◌∷◌, ◌+◌, List, ℕ, sym, subst, ◌∙◌, arith}
use Rattle.outside_net.specs.Told.{BeginsEmpty, Grows, GrowsByTold}
use Rattle.outside_net.specs.Places.{returned}
use Rattle.share_crew.proofs.Nets.{grows_then}
use Rattle.relay_command.specs.Faults.{net_fault}
use Rattle.relay_command.specs.Places.{StopsOpening, unused_link}
use Rattle.relay_command.specs.Terms.{places_of}
use Rattle.relay_command.proofs.Nets.{stops_opening, unused_back}
use Rattle.relay_command.proofs.opening.open_addresses.Goals as goal

-- the connection was closed
pub returns-in-Err-listen-clause-failed : goal.returns-in-Err-listen-clause-failed
returns-in-Err-listen-clause-failed g c =
    let s = c.args.relaying.now in
    let asked = g.N.Net.asked in
    let written = g.N.Net.written in
    let faults = g.N.Faulted.faults in
    let one = c.in-Ok.ensures in
    let two = c.in-Err-listen.ensures in
    let stands = two.written_stays ∙ one.written_stays in record {
      count = 2;
      few = omega arith;
      asked = subst (λ a. Grows (asked c.args.net.now) a (places_of s)) (sym c.close.ensures.asked_stays)
          (grows_then (asked c.args.net.now) (asked c.connect.new.self) (asked c.listen.new.self) ((s.upstream, 0) ∷ []) ((s.listen, s.workers + 1) ∷ [])
          (subst (λ (place : List ℕ). Grows (asked c.args.net.now) (asked c.connect.new.self) ((place, 0) ∷ [])) c.as_str.ensures one.asks)
          (subst (λ (place : List ℕ). Grows (asked c.connect.new.self) (asked c.listen.new.self) ((place, s.workers + 1) ∷ [])) c.as_str-2.ensures two.asks));
      written = unused_back (written c.args.net.now) (written c.close.new.self) (g.N.L.Sink.taken c.in-Ok.link) (g.N.L.Faulted.faults c.in-Ok.link) one.unwritten one.fresh
          (subst (λ w. GrowsByTold w (written c.close.new.self) (returned (g.N.L.Sink.taken c.in-Ok.link) (g.N.L.Faulted.faults c.in-Ok.link))) stands c.close.ensures.written_grows);
      stops = subst (StopsOpening (faults c.args.net.now) (faults c.close.new.self)) (sym c.net_fault.ensures)
          (subst (λ (n : ℕ). StopsOpening (faults c.args.net.now) n (net_fault c.in-Err-listen.error)) (sym (c.close.ensures.count.faultless one.fresh))
          (stops_opening (Unit {0}) (faults c.args.net.now) (faults c.connect.new.self) (faults c.listen.new.self) c.in-Err-listen.error one.count two.count));
    }
