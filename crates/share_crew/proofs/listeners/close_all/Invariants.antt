use Rattle.std.proofs.Common.{◌≡◌, ◌-◌, [], List, length, Option}
use Rattle.std.specs.Vec.Iter.{into_iter_items}
use Rattle.outside_net.specs.Places.{Returned}
use Rattle.outside_net.specs.Told.{Grows}
use Rattle.share_crew.specs.Listeners.{AreNew}
use Rattle.share_crew.proofs.listeners.close_all.Given as goal

abbrev pub invariant-loop-listener : goal.invariant-loop-listener
invariant-loop-listener g l = record {
  asked : g.N.Net.asked l.net ≡ g.N.Net.asked l.fn.net;
  written : (kept : Option (List Returned)) → AreNew g.N.D.Listener.written g.N.D.Faulted.faults kept l.fn.listeners.items → Grows kept (g.N.Net.written l.fn.net) [] → Grows kept (g.N.Net.written l.net) [];
  count : (kept : Option (List Returned)) → AreNew g.N.D.Listener.written g.N.D.Faulted.faults kept l.fn.listeners.items → g.N.Faulted.faults l.net ≡ g.N.Faulted.faults l.fn.net;
  rest : (kept : Option (List Returned)) → AreNew g.N.D.Listener.written g.N.D.Faulted.faults kept l.fn.listeners.items → AreNew g.N.D.Listener.written g.N.D.Faulted.faults kept (into_iter_items l.listener-iterator);
  open_so_far : g.N.Net.open_count l.net - length (into_iter_items l.listener-iterator) ≡ g.N.Net.open_count l.fn.net - length l.fn.listeners.items;
}
