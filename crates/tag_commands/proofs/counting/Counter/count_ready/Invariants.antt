use Rattle.std.proofs.Common.{◌≡◌, ℕ, List, length}
use Rattle.dmap_stream.specs.Reader.{ready}
use Rattle.tag_commands.specs.Counting.{HasCounted}
use Rattle.tag_commands.proofs.counting.Counter.count_ready.Given as goal

-- what was counted of any bytes before is counted still
abbrev pub invariant-loop-event : goal.invariant-loop-event
invariant-loop-event l = record {
  counted : (fed : List ℕ) → HasCounted fed l.initial.self.reader l.initial.self.tops → HasCounted fed l.self.reader l.self.tops;
  bytes : l.self.bytes ≡ l.initial.self.bytes;
}

abbrev pub decreases-loop-event : goal.decreases-loop-event
decreases-loop-event l = length (ready l.self.reader)
