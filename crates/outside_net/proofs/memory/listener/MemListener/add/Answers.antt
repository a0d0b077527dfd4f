use Rattle.std.proofs.Common.{rules}
use Rattle.outside_net.specs.MemLink.{IsNew}
use Rattle.outside_net.proofs.Opening.{All-pushed}
use Rattle.outside_net.proofs.memory.listener.MemListener.add.Goals as goal

-- One search proves all clauses of a return. A search for each clause, as without an answer, takes far longer.
pub returns-in_err-push_back : goal.returns-in_err-push_back
returns-in_err-push_back c = search rules

pub returns : goal.returns
returns c = search rules

-- the other connections are new, and so is this one
pub invariant_of-self : goal.invariant_of-self
invariant_of-self c = record { new_links = All-pushed IsNew _ _ _ _ c.push_back.ensures.items c.args.self.now.new_links c.requires }
