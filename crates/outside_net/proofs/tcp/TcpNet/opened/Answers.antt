use Rattle.std.proofs.Common.{◌≡◌, ◌∙◌, refl, arith, rules}
use Rattle.std.proofs.lemmas.List.Elements.{All-push}
use Rattle.outside_net.proofs.tcp.TcpNet.opened.Goals as goal

-- One search proves all clauses of a return. A search for each clause, as without an answer, takes far longer.
pub returns-in_err-listener : goal.returns-in_err-listener
returns-in_err-listener g c = search rules

pub returns-in_err-listeners : goal.returns-in_err-listeners
returns-in_err-listeners g c = search rules

pub returns-in_err-push : goal.returns-in_err-push
returns-in_err-push g c = search rules

pub returns-in_err-clones : goal.returns-in_err-clones
returns-in_err-clones g c = search rules

pub returns-in_err-address : goal.returns-in_err-address
returns-in_err-address g c = search rules

pub returns-in_err-addresses : goal.returns-in_err-addresses
returns-in_err-addresses g c = search rules

pub returns-in_err-try_clone : goal.returns-in_err-try_clone
returns-in_err-try_clone g c = search rules

pub loop-init : goal.loop-init
loop-init g c = search rules

-- one more listener was made, without an error
pub loop-preserved : goal.loop-preserved
loop-preserved g c = record {
  made = omega (arith, c.loop.invariant.made, c.push_reserved.ensures.len);
  fresh = rw c.push_reserved.ensures.items (All-push (λ listener. listener.faults ≡ 0) _ _ c.loop.invariant.fresh refl);
  room = c.push_reserved.ensures.capacity ∙ c.loop.invariant.room;
}

pub returns : goal.returns
returns g c = search rules
