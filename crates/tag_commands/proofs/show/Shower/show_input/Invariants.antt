use Rattle.std.proofs.Common.{◌≡◌, ◌-◌, ◌≤◌, [], ℕ, List, length}
use Rattle.std.specs.Io.KnownBytes.{Consumes}
use Rattle.tag_commands.specs.TopTags.{tags_limit}
use Rattle.command_core.specs.Endings.{IsWritten}
use Rattle.tag_commands.specs.Showing.{IsShowing}
use Rattle.tag_commands.proofs.show.Shower.show_input.Given as goal

-- what was read is shown and written, within the limit, and the error counter is as before
abbrev pub invariant-loop-n : goal.invariant-loop-n
invariant-loop-n g l = record {
  fed : List ℕ;
  written : List ℕ;
  showing : IsShowing fed written l.self;
  idle : l.self.lines.items ≡ [];
  within : length fed ≤ tags_limit;
  read : Consumes (g.I.Source.left l.initial.input) (g.I.Source.left l.input) fed;
  faultless : g.I.Faulted.faults l.input ≡ g.I.Faulted.faults l.initial.input;
  told : IsWritten (record { taken = g.W.Sink.taken l.initial.output; faults = g.W.Faulted.faults l.initial.output })
      (record { taken = g.W.Sink.taken l.output; faults = g.W.Faulted.faults l.output }) written;
}

abbrev pub decreases-loop-n : goal.decreases-loop-n
decreases-loop-n g l = tags_limit - l.self.counter.bytes
