use Rattle.std.proofs.Common.{[], ◌∷◌, List, ℕ, Option, sym, subst, ◌∙◌, arith}
use Rattle.outside_net.specs.Told.{Grows}
use Rattle.serve_command.specs.Faults.{net_fault}
use Rattle.share_crew.specs.Listeners.{AreNew}
use Rattle.serve_command.specs.Places.{StopsOpening}
use Rattle.serve_command.specs.Terms.{places_of}
use Rattle.share_crew.proofs.Nets.{grows_then, grows_by_none}
use Rattle.serve_command.proofs.Nets.{have_links, stops_behind}
use Rattle.serve_command.proofs.places.open_addresses.Goals as goal

pub returns-in-Ok-listen-clause-opened : goal.returns-in-Ok-listen-clause-opened
returns-in-Ok-listen-clause-opened g c =
    let s = c.args.serving.now in
    let asked = g.N.Net.asked in
    let one = c.in-Ok.ensures in
    let two = c.in-Ok-listen.ensures in record {
      listening = one.as_many;
      editing = two.as_many;
      asked = record {
        asked = grows_then (asked c.args.net.now) (asked c.listen.new.self) (asked c.listen-2.new.self) ((s.listen, s.workers) ∷ []) ((s.edit, s.editors) ∷ [])
            (subst (λ (place : List ℕ). Grows (asked c.args.net.now) (asked c.listen.new.self) ((place, s.workers) ∷ [])) c.as_str.ensures one.asks)
            (subst (λ (place : List ℕ). Grows (asked c.listen.new.self) (asked c.listen-2.new.self) ((place, s.editors) ∷ [])) c.as_str-2.ensures two.asks);
        written = grows_by_none (g.N.Net.written c.args.net.now) (g.N.Net.written c.listen-2.new.self) (two.written_stays ∙ one.written_stays);
      };
      links = have_links g.N.D.Listener.coming (g.N.Net.listener_links c.args.net.now) (g.N.Net.listener_links c.listen.new.self) (g.N.Net.listener_links c.listen-2.new.self)
          c.in-Ok.listeners.items c.in-Ok-listen.edit.items one.links two.links;
      faultless = two.count ∙ one.count;
    }

-- the listeners of the first address were closed
pub returns-in-Err-listen-clause-failed : goal.returns-in-Err-listen-clause-failed
returns-in-Err-listen-clause-failed g c =
    let s = c.args.serving.now in
    let asked = g.N.Net.asked in
    let faults = g.N.Faulted.faults in
    let kept = g.N.Net.written c.args.net.now in
    let one = c.in-Ok.ensures in
    let two = c.in-Err-listen.ensures in
    let new : AreNew g.N.D.Listener.written g.N.D.Faulted.faults kept c.in-Ok.listeners.items = λ k d less. record { faultless = one.fresh k d less; unwritten = one.unwritten k d less } in record {
      count = 2;
      few = omega arith;
      some = λ is. omega arith;
      asked = record {
        asked = subst (λ (a : Option (List (List ℕ × ℕ))). Grows (asked c.args.net.now) a (places_of s)) (sym c.close_all.ensures.asked)
            (grows_then (asked c.args.net.now) (asked c.listen.new.self) (asked c.listen-2.new.self) ((s.listen, s.workers) ∷ []) ((s.edit, s.editors) ∷ [])
            (subst (λ (place : List ℕ). Grows (asked c.args.net.now) (asked c.listen.new.self) ((place, s.workers) ∷ [])) c.as_str.ensures one.asks)
            (subst (λ (place : List ℕ). Grows (asked c.listen.new.self) (asked c.listen-2.new.self) ((place, s.editors) ∷ [])) c.as_str-2.ensures two.asks));
        written = c.close_all.ensures.written kept new (grows_by_none kept (g.N.Net.written c.listen-2.new.self) (two.written_stays ∙ one.written_stays));
      };
      stops = subst (StopsOpening (faults c.args.net.now) (faults c.close_all.new.net)) (sym c.net_fault-in-Err-listen.ensures)
          (subst (λ (n : ℕ). StopsOpening (faults c.args.net.now) n (net_fault c.in-Err-listen.error)) (sym (c.close_all.ensures.count kept new))
          (stops_behind (Unit {0}) (faults c.args.net.now) (faults c.listen.new.self) (faults c.listen-2.new.self) c.in-Err-listen.error one.count two.count));
    }
