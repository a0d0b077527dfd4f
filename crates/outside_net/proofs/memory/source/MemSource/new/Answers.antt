use Rattle.std.proofs.Common.{rules}
use Rattle.outside_net.proofs.memory.source.MemSource.new.Goals as goal

-- One search proves all clauses of a return. A search for each clause, as without an answer, takes far longer.
pub returns-in_err-copied : goal.returns-in_err-copied
returns-in_err-copied c = search rules

pub returns-in_err-copied-2 : goal.returns-in_err-copied-2
returns-in_err-copied-2 c = search rules

pub returns : goal.returns
returns c = search rules
