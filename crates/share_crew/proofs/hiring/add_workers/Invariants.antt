use Rattle.std.proofs.Common.{◌≡◌, ◌+◌, ◌≤◌, ◌++◌, length}
use Rattle.std.specs.Prelude.{vec_len, vec_capacity}
use Rattle.std.specs.Vec.Iter.{into_iter_items}
use Rattle.share_lock.specs.Passes.{lock_id, known, IsReady}
use Rattle.share_crew.specs.Crews.{AddsWorkers}
use Rattle.share_crew.proofs.hiring.add_workers.Given as goal

abbrev pub invariant-loop-listener : goal.invariant-loop-listener
invariant-loop-listener g l = record {
  ready : IsReady (lock_id l.lock) l.first;
  pass : known l.first ≡ known l.fn.first;
  hired : AddsWorkers (lock_id l.lock) (known l.fn.first) l.role l.yielded l.fn.crew.items l.crew.items;
  counted : vec_len l.crew ≡ vec_len l.fn.crew + length l.yielded;
  capacity : vec_capacity l.crew ≡ vec_capacity l.fn.crew;
  items : l.yielded ++ into_iter_items l.listener-iterator ≡ l.fn.listeners.items;
  room : vec_len l.crew + length (into_iter_items l.listener-iterator) ≤ vec_capacity l.crew;
}
