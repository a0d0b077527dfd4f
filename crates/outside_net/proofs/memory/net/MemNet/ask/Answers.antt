use Rattle.std.proofs.Common.{rules}
use Rattle.outside_net.proofs.memory.net.MemNet.ask.Goals as goal

-- One search proves all clauses of a return. A search for each clause, as without an answer, takes far longer.
pub returns-then-contains : goal.returns-then-contains
returns-then-contains c = search rules

pub returns : goal.returns
returns c = search rules
