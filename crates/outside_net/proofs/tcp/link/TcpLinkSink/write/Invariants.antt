use Rattle.std.proofs.Common.{◌≡◌}
use Rattle.outside_net.proofs.tcp.link.TcpLinkSink.write.Given as goal

-- an interrupted wait is not an error
abbrev pub invariant-loop : goal.invariant-loop
invariant-loop g l = l.self.faults ≡ l.initial.self.faults
