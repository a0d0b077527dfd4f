use Rattle.std.proofs.Common.{◌≡◌, ◌-◌, ◌^◌, ℕ, List}
use Rattle.std.specs.Io.KnownBytes.{Consumes}
use Rattle.tag_commands.specs.Learning.{IsLearning}
use Rattle.tag_commands.proofs.learn.Learner.read_reply.Given as goal

-- what was read begins a reply, and the error counter is as before
abbrev pub invariant-loop-n : goal.invariant-loop-n
invariant-loop-n g l = record {
  fed : List ℕ;
  learning : IsLearning fed l.self;
  read : Consumes (g.I.Source.left l.initial.input) (g.I.Source.left l.input) fed;
  faultless : g.I.Faulted.faults l.input ≡ g.I.Faulted.faults l.initial.input;
}

abbrev pub decreases-loop-n : goal.decreases-loop-n
decreases-loop-n g l = 2 ^ 64 - l.self.counter.bytes
