use Rattle.std.proofs.Common.{◌≡◌, ◌-◌, ◌≤◌, ℕ, List, length}
use Rattle.std.specs.Io.KnownBytes.{Consumes}
use Rattle.tag_commands.specs.TopTags.{tags_limit}
use Rattle.tag_commands.specs.Counting.{IsCounted}
use Rattle.tag_commands.proofs.check.count_tags.Given as goal

-- what was read is counted, within the limit, and the error counter is as before
abbrev pub invariant-loop-n : goal.invariant-loop-n
invariant-loop-n g l = record {
  fed : List ℕ;
  counted : IsCounted fed l.counter;
  within : length fed ≤ tags_limit;
  read : Consumes (g.I.Source.left l.initial.input) (g.I.Source.left l.input) fed;
  faultless : g.I.Faulted.faults l.input ≡ g.I.Faulted.faults l.initial.input;
}

abbrev pub decreases-loop-n : goal.decreases-loop-n
decreases-loop-n g l = tags_limit - l.counter.bytes
