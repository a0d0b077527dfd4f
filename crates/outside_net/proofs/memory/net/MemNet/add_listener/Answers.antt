use Rattle.std.proofs.Common.{rules}
use Rattle.outside_net.proofs.memory.net.MemNet.add_listener.Goals as goal

-- One search proves all clauses of a return. A search for each clause, as without an answer, takes far longer.
pub returns-in_err-push : goal.returns-in_err-push
returns-in_err-push c = search rules

pub returns : goal.returns
returns c = search rules
