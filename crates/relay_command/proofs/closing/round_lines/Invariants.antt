use Rattle.std.proofs.Common.{◌≡◌, ◌++◌, drop}
use Rattle.relay_command.specs.Lines.{round_lines}
use Rattle.relay_command.proofs.closing.round_lines.Given as goal

abbrev pub invariant-loop-round : goal.invariant-loop-round
invariant-loop-round l = l.lines.items ++ round_lines (drop l.round-index l.rounds) ≡ round_lines l.rounds
