use Rattle.std.proofs.Common.{◌≡◌, ◌≤◌, ◌-◌, ◌++◌, ℕ, List, None, false, length, take}
use Rattle.share_asks.specs.declared.ask.Role.{Role}
use Rattle.share_lock.specs.Passes.{lock_id, known, IsReady}
use Rattle.share_server.specs.Kept.{Keeping}
use Rattle.share_server.specs.Progress.{BytesServed}
use Rattle.share_server.specs.Steps.{ServingSeen}
use Rattle.share_server.proofs.link.reading.feed.Given as goal

-- `done` bytes of the chunk were fed, the keeper lost nothing, and the connection stays open
abbrev pub invariant-loop-done : goal.invariant-loop-done
invariant-loop-done g l = record {
  within : l.done ≤ length l.piece;
  ready : IsReady (lock_id l.context.lock.now) l.pass;
  idle : l.progress.reader.ready ≡ None;
  fed : (role : Role) (bytes : List ℕ) (start : ServingSeen)
      → BytesServed role bytes l.context.limit start.pass (known l.initial.pass) start.taken (g.K.Sink.taken l.initial.link) l.initial.progress.reader l.initial.progress.served.items
      → BytesServed role (bytes ++ take l.done l.piece) l.context.limit start.pass (known l.pass) start.taken (g.K.Sink.taken l.link) l.progress.reader l.progress.served.items;
  going : g.F.Keeps.is_lost l.keeper ≡ false;
  keeping :
      Keeping (g.F.Keeps.keeps l.initial.keeper) (g.F.Keeps.keeps l.keeper) (g.F.Keeps.is_lost l.keeper) (g.F.Keeps.faults l.initial.keeper) (g.F.Keeps.faults l.keeper)
      (known l.initial.pass) (known l.pass) false;
  beside : g.K.Sink.beside_taken l.link ≡ g.K.Sink.beside_taken l.initial.link;
  count : g.K.Faulted.faults l.link ≡ g.K.Faulted.faults l.initial.link;
}

abbrev pub decreases-loop-done : goal.decreases-loop-done
decreases-loop-done g l = length l.piece - l.done
