use Rattle.std.proofs.Common.{rules}
use Rattle.outside_net.proofs.tcp.TcpNetNet.connect.Goals as goal

-- One search proves all clauses of a return. A search for each clause, as without an answer, takes far longer.
pub returns-in_default : goal.returns-in_default
returns-in_default g c = search rules

pub returns-in-Ok : goal.returns-in-Ok
returns-in-Ok g c = search rules

pub returns-in-Err : goal.returns-in-Err
returns-in-Err g c = search rules
