use Rattle.std.proofs.Common.{rules}
use Rattle.std.proofs.lemmas.List.Elements.{All-drop}
use Rattle.outside_net.specs.MemLink.{IsNew}
use Rattle.outside_net.proofs.memory.listener.MemListenerListener.accept.Goals as goal

-- One search proves all clauses of a return. A search for each clause, as without an answer, takes far longer.
pub returns-then-contains : goal.returns-then-contains
returns-then-contains c = search rules

pub returns : goal.returns
returns c = search rules

-- one connection fewer will come
pub invariant_of-self-2 : goal.invariant_of-self-2
invariant_of-self-2 c = record {
  new_links = rw c.pop_front.ensures.rest (All-drop IsNew 1 c.args.self.now.coming.items c.args.self.now.new_links);
}
