use Rattle.std.proofs.Common.{◌≡◌, All, vec_len, vec_capacity}
use Rattle.outside_net.proofs.tcp.TcpNet.opened.Given as goal

-- `counter` listeners are made, none with an error, and there is capacity for all of them
abbrev pub invariant-loop : goal.invariant-loop
invariant-loop g l = record {
  made : vec_len l.listeners ≡ l.counter;
  fresh : All (λ listener. listener.faults ≡ 0) l.listeners.items;
  room : vec_capacity l.listeners ≡ l.number;
}
