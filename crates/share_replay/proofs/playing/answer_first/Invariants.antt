use Rattle.std.proofs.Common.{◌≡◌, drop}
use Rattle.share_replay.specs.Machine.{first_due}
use Rattle.share_replay.proofs.playing.answer_first.Given as goal

-- the connections so far cannot be answered, and nothing has changed
abbrev pub invariant-loop-other : goal.invariant-loop-other
invariant-loop-other g l = record {
  first :
      first_due l.initial.share.settings l.initial.share.history 0 l.initial.connections
      ≡ first_due l.initial.share.settings l.initial.share.history l.other (drop l.other l.initial.connections);
  settings : l.share.settings ≡ l.initial.share.settings;
  history : l.share.history ≡ l.initial.share.history;
  connections : l.connections ≡ l.initial.connections;
  taken : g.W.Sink.taken l.sink ≡ g.W.Sink.taken l.initial.sink;
  faultless : g.W.Faulted.faults l.sink ≡ g.W.Faulted.faults l.initial.sink;
}
