use Rattle.std.proofs.Common.{◌≡◌, ◌+◌, ◌≤◌, length, false, None, if◌then◌else◌}
use Rattle.share_replay.specs.Machine.{most_connections, most_left, turn_place}
use Rattle.share_replay.proofs.MachineFacts.{Leads}
use Rattle.share_replay.proofs.playing.settle.Given as goal

-- some number of answers led here; when the loop ends, no connection can be answered
abbrev pub invariant-loop-is_due : goal.invariant-loop-is_due
invariant-loop-is_due g l = record {
  leads : Leads l.initial.share.settings l.place l.initial.share.history l.initial.connections (g.W.Sink.taken l.initial.sink) l.share.history l.connections (g.W.Sink.taken l.sink);
  rests : l.is_due ≡ false → turn_place l.initial.share.settings l.share.history l.place l.connections ≡ None;
  settings : l.share.settings ≡ l.initial.share.settings;
  few : length l.connections ≤ most_connections;
  faultless : g.W.Faulted.faults l.sink ≡ g.W.Faulted.faults l.initial.sink;
}

abbrev pub decreases-loop-is_due : goal.decreases-loop-is_due
decreases-loop-is_due g l = most_left l.connections + (if l.is_due then 1 else 0)
