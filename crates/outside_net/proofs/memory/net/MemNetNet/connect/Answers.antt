use Rattle.std.proofs.Common.{rules}
use Rattle.std.proofs.lemmas.List.Elements.{All-drop}
use Rattle.outside_net.specs.MemLink.{IsNew}
use Rattle.outside_net.proofs.memory.net.MemNetNet.connect.Goals as goal

-- One search proves all clauses of a return. A search for each clause, as without an answer, takes far longer.
pub returns-in_err-ask : goal.returns-in_err-ask
returns-in_err-ask c = search rules

pub invariant_of-self : goal.invariant_of-self
invariant_of-self c = record { new_listeners = c.ask.new.self.new_listeners; new_links = c.ask.new.self.new_links }

pub returns-in_default : goal.returns-in_default
returns-in_default c = search rules

pub invariant_of-self-in-Some-pop_front : goal.invariant_of-self-in-Some-pop_front
invariant_of-self-in-Some-pop_front c = record {
  new_listeners = c.ask.new.self.new_listeners;
  new_links = rw c.pop_front.ensures.rest (All-drop IsNew 1 c.ask.new.self.links.items c.ask.new.self.new_links);
}

pub returns-in-Some-pop_front : goal.returns-in-Some-pop_front
returns-in-Some-pop_front c = search rules

pub invariant_of-self-in-None : goal.invariant_of-self-in-None
invariant_of-self-in-None c = record {
  new_listeners = c.ask.new.self.new_listeners;
  new_links = rw c.pop_front.ensures.rest (All-drop IsNew 1 c.ask.new.self.links.items c.ask.new.self.new_links);
}

pub returns-in-None : goal.returns-in-None
returns-in-None c = search rules
