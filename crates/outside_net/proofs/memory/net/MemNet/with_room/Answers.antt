use Rattle.std.proofs.Common.{rules}
use Rattle.outside_net.proofs.memory.net.MemNet.with_room.Goals as goal

-- One search proves all clauses of a return. A search for each clause, as without an answer, takes far longer.
pub returns-in_err-net : goal.returns-in_err-net
returns-in_err-net c = search rules

pub returns-in_err-net-2 : goal.returns-in_err-net-2
returns-in_err-net-2 c = search rules

pub returns-in_err-net-3 : goal.returns-in_err-net-3
returns-in_err-net-3 c = search rules

pub returns : goal.returns
returns c = search rules
