use Rattle.std.proofs.Common.{◌≡◌, ℕ, List, length}
use Rattle.dmap_stream.specs.Reader.{ready}
use Rattle.tag_commands.specs.Showing.{HasShown}
use Rattle.tag_commands.proofs.show.Shower.show_ready.Given as goal

-- what was shown of any bytes before is shown still
abbrev pub invariant-loop-event : goal.invariant-loop-event
invariant-loop-event l = record {
  shown : (fed written : List ℕ) → HasShown fed written l.initial.self.counter.reader l.initial.self.counter.tops l.initial.self.lines.items
      → HasShown fed written l.self.counter.reader l.self.counter.tops l.self.lines.items;
  error : l.self.counter.reader.error ≡ l.initial.self.counter.reader.error;
  bytes : l.self.counter.bytes ≡ l.initial.self.counter.bytes;
}

abbrev pub decreases-loop-event : goal.decreases-loop-event
decreases-loop-event l = length (ready l.self.counter.reader)
