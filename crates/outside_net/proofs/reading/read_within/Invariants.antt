use Rattle.std.proofs.Common.{◌≡◌, ◌-◌, ◌≤◌, vec_len}
use Rattle.std.specs.Io.KnownBytes.{Consumes}
use Rattle.outside_net.proofs.reading.read_within.Given as goal

-- these bytes were read, within the limit, and no error was counted
abbrev pub invariant-loop-all : goal.invariant-loop-all
invariant-loop-all g l = record {
  within : vec_len l.all ≤ l.most;
  read : Consumes (g.I.Source.left l.initial.source) (g.I.Source.left l.source) l.all.items;
  beside : g.I.Source.beside_left l.source ≡ g.I.Source.beside_left l.initial.source;
  count : g.I.Faulted.faults l.source ≡ g.I.Faulted.faults l.initial.source;
}

abbrev pub decreases-loop-all : goal.decreases-loop-all
decreases-loop-all g l = l.most - vec_len l.all
