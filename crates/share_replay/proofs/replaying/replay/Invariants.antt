use Rattle.std.proofs.Common.{◌≡◌, ◌≤◌, length, take, fold}
use Rattle.share_replay.specs.Machine.{begin, most_connections, after_line}
use Rattle.share_replay.specs.Played.{IsAt}
use Rattle.share_replay.proofs.replaying.replay.Given as goal

-- the machine has played the lines so far
abbrev pub invariant-loop-line : goal.invariant-loop-line
invariant-loop-line g l = record {
  at :
      IsAt (fold (after_line l.initial.share.settings) (begin l.initial.share.history) (take l.line-index l.lines)) l.share.history l.connections.items
      (g.W.Sink.taken l.initial.sink) (g.W.Sink.taken l.sink);
  settings : l.share.settings ≡ l.initial.share.settings;
  few : length l.connections.items ≤ most_connections;
  faultless : g.W.Faulted.faults l.sink ≡ g.W.Faulted.faults l.initial.sink;
}
