use Rattle.std.proofs.Common.{[], List, length, Option, sym, ap, ◌∙◌, arith}
use Rattle.outside_net.specs.Places.{Returned}
use Rattle.share_crew.specs.Listeners.{IsNew, AreNew}
use Rattle.share_crew.proofs.Joining.{all_head, all_tail}
use Rattle.share_crew.proofs.Nets.{grows_told, grows_none}
use Rattle.share_crew.proofs.listeners.close_all.Goals as goal

pub loop-listener-preserved : goal.loop-listener-preserved
loop-listener-preserved g c =
    let inv = c.loop-listener.invariant in
    let written = g.N.D.Listener.written in
    let faults = g.N.D.Faulted.faults in
    let listener = c.in-Some.listener in
    let one : (kept : Option (List Returned)) → AreNew written faults kept c.args.listeners.items → IsNew written faults kept listener = λ kept new. all_head (IsNew written faults kept) listener _ _ c.in-Some.ensures.steps.0 (inv.rest kept new) in record {
      asked = c.close_listener.ensures.asked_stays ∙ inv.asked;
      written = λ kept new start.
          grows_told kept (written listener) (written listener) (g.N.Net.written c.loop-listener.net) (g.N.Net.written c.close_listener.new.self) [] [] (one kept new).unwritten (grows_none (written listener)) (inv.written kept new start) c.close_listener.ensures.written_grows;
      count = λ kept new. c.close_listener.ensures.count.faultless (one kept new).faultless ∙ inv.count kept new;
      rest = λ kept new. all_tail (IsNew written faults kept) listener _ _ c.in-Some.ensures.steps.0 (inv.rest kept new);
      open_so_far = let count = ap length c.in-Some.ensures.steps.0 in let so_far = inv.open_so_far in let closes = c.close_listener.ensures.closes in omega (arith, count, so_far, closes);
    }

pub returns-clause-closes : goal.returns-clause-closes
returns-clause-closes g c =
    let none = sym c.loop-listener.listener-iterator.rest.ok.0 ∙ c.in-None.ensures.steps.0 in
    let so_far = c.loop-listener.invariant.open_so_far in
    omega (arith, none, so_far)
