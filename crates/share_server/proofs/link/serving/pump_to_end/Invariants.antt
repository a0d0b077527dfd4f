use Rattle.std.proofs.Common.{◌≡◌, None, false}
use Rattle.share_asks.specs.declared.ask.Role.{Role}
use Rattle.share_lock.specs.Passes.{lock_id, known, IsReady}
use Rattle.share_server.specs.Kept.{Keeping}
use Rattle.share_server.specs.Progress.{ReadsServed}
use Rattle.share_server.specs.Steps.{ServingSeen}
use Rattle.share_server.proofs.link.serving.pump_to_end.Given as goal

-- all that was read was served, the keeper lost nothing, and the connection stays open
abbrev pub invariant-loop : goal.invariant-loop
invariant-loop g l = record {
  ready : IsReady (lock_id l.context.lock.now) l.pass;
  idle : l.progress.reader.ready ≡ None;
  under : (role : Role) (start : ServingSeen)
      → ReadsServed role l.context.limit start.pass (known l.fn.pass) start.left (g.K.Source.left l.fn.link) start.taken (g.K.Sink.taken l.fn.link) l.fn.progress.reader l.fn.progress.served.items 0
      → ReadsServed role l.context.limit start.pass (known l.pass) start.left (g.K.Source.left l.link) start.taken (g.K.Sink.taken l.link) l.progress.reader l.progress.served.items l.consumed;
  going : g.F.Keeps.is_lost l.keeper ≡ false;
  keeping :
      Keeping (g.F.Keeps.keeps l.fn.keeper) (g.F.Keeps.keeps l.keeper) (g.F.Keeps.is_lost l.keeper) (g.F.Keeps.faults l.fn.keeper) (g.F.Keeps.faults l.keeper)
      (known l.fn.pass) (known l.pass) false;
  count : g.K.Faulted.faults l.link ≡ g.K.Faulted.faults l.fn.link;
}
