use Rattle.std.proofs.Common.{◌-◌}
use Rattle.outside_net.proofs.tcp.link.TcpLink.goodbye.Given as goal

abbrev pub decreases-loop-dropped : goal.decreases-loop-dropped
decreases-loop-dropped g l = 8388608 - l.dropped
