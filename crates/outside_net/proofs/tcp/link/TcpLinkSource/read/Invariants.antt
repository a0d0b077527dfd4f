use Rattle.std.proofs.Common.{◌≡◌}
use Rattle.outside_net.proofs.tcp.link.TcpLinkSource.read.Given as goal

-- an interrupted wait is not an error
abbrev pub invariant-loop : goal.invariant-loop
invariant-loop g l = l.self.faults ≡ l.initial.self.faults
