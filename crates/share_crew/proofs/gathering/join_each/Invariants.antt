use Rattle.std.proofs.Common.{◌≡◌, ◌+◌, ◌-◌, ◌≤◌, ◌++◌, List, map, length}
use Rattle.std.specs.List.{AllZip}
use Rattle.std.specs.Prelude.{All, vec_len, vec_capacity}
use Rattle.std.specs.Vec.Iter.{into_iter_items}
use Rattle.item_model.specs.declared.changes.Entry.{Entry}
use Rattle.share_lock.specs.Passes.{lock_id, known, IsReady}
use Rattle.share_replies.specs.Settings.{Settings}
use Rattle.share_crew.specs.Crews.{IsOf, HasJoined, HasClosedListeners}
use Rattle.share_crew.specs.WorkerRuns.{WorkerRun, passes_in}
use Rattle.share_crew.proofs.gathering.join_each.Given as goal

abbrev pub invariant-loop-worker : goal.invariant-loop-worker
invariant-loop-worker g l = record {
  ready : IsReady (lock_id l.lock) l.first;
  others : All (λ w. IsReady (lock_id l.lock) w.pass) (into_iter_items l.worker-iterator);
  joined : (settings : Settings) (opening : List Entry) (worker_runs : List (WorkerRun settings opening)) → AllZip (IsOf g.N.D.Listener.written g.N.D.Faulted.faults) worker_runs l.yielded
      → HasJoined (known l.fn.first) (known l.first) (passes_in worker_runs);
  shut : (settings : Settings) (opening : List Entry) (worker_runs : List (WorkerRun settings opening)) → AllZip (IsOf g.N.D.Listener.written g.N.D.Faulted.faults) worker_runs l.yielded
      → HasClosedListeners (g.N.Net.written l.fn.net) (g.N.Net.written l.net) (g.N.Faulted.faults l.fn.net) (g.N.Faulted.faults l.net) worker_runs;
  asked : g.N.Net.asked l.net ≡ g.N.Net.asked l.fn.net;
  open_so_far : g.N.Net.open_count l.net - length (into_iter_items l.worker-iterator) ≡ g.N.Net.open_count l.fn.net - length l.fn.crew.items;
  kept : map (λ reports. reports.items) l.links.items ≡ map (λ reports. reports.items) l.fn.links.items ++ map (λ w. w.reports.items) l.yielded;
  capacity : vec_capacity l.links ≡ vec_capacity l.fn.links;
  room : vec_len l.links + length (into_iter_items l.worker-iterator) ≤ vec_capacity l.links;
  items : l.yielded ++ into_iter_items l.worker-iterator ≡ l.fn.crew.items;
}
