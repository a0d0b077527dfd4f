use Rattle.std.proofs.Common.{rules}
use Rattle.outside_net.proofs.memory.net.MemNetNet.listen.Goals as goal

-- One search proves all clauses of a return. A search for each clause, as without an answer, takes far longer.
pub returns-in_err-ask : goal.returns-in_err-ask
returns-in_err-ask c = search rules

pub invariant_of-self : goal.invariant_of-self
invariant_of-self c = record { new_listeners = c.ask.new.self.new_listeners; new_links = c.ask.new.self.new_links }

pub returns-then-len-number : goal.returns-then-len-number
returns-then-len-number c = search rules

pub invariant_of-self-in_default : goal.invariant_of-self-in_default
invariant_of-self-in_default c = record { new_listeners = c.ask.new.self.new_listeners; new_links = c.ask.new.self.new_links }

pub returns-in_default : goal.returns-in_default
returns-in_default c = search rules

pub invariant_of-self-in-Break-branch-2 : goal.invariant_of-self-in-Break-branch-2
invariant_of-self-in-Break-branch-2 c =
    record { new_listeners = c.take_first.ensures.new_rest c.ask.new.self.new_listeners; new_links = c.ask.new.self.new_links }

pub returns-in_err-listeners : goal.returns-in_err-listeners
returns-in_err-listeners c = search rules

pub invariant_of-self-2 : goal.invariant_of-self-2
invariant_of-self-2 c =
    record { new_listeners = c.take_first.ensures.new_rest c.ask.new.self.new_listeners; new_links = c.ask.new.self.new_links }

-- the listeners that are returned are new ones
pub returns : goal.returns
returns c = let opened = c.in_ok-listeners.ensures.new_first c.ask.new.self.new_listeners in search rules
