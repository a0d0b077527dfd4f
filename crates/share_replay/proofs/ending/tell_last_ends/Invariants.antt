use Rattle.std.proofs.Common.{◌≡◌}
use Rattle.share_replay.proofs.EndFacts.{HasTold}
use Rattle.share_replay.proofs.ending.tell_last_ends.Given as goal

abbrev pub invariant-loop-slot : goal.invariant-loop-slot
invariant-loop-slot g l = record {
  told : HasTold l.connections l.slot-index (g.W.Sink.taken l.initial.sink) (g.W.Sink.taken l.sink);
  number : l.number ≡ l.slot-index;
  faultless : g.W.Faulted.faults l.sink ≡ g.W.Faulted.faults l.initial.sink;
}
