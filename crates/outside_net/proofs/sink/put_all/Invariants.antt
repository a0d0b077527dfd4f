use Rattle.std.proofs.Common.{◌≡◌, ◌+◌, ◌-◌, ◌≤◌, length, take}
use Rattle.std.specs.Io.KnownBytes.{Appends}
use Rattle.outside_net.proofs.sink.put_all.Given as goal

-- the first `done` bytes were written, the guaranteed capacity fell by at most `done`, and no error was counted
abbrev pub invariant-loop-done : goal.invariant-loop-done
invariant-loop-done g l = record {
  within : l.done ≤ length l.bytes;
  taken : Appends (g.W.Sink.taken l.initial.sink) (g.W.Sink.taken l.sink) (take l.done l.bytes);
  sure : g.W.Sink.sure_room l.initial.sink ≤ g.W.Sink.sure_room l.sink + l.done;
  beside : g.W.Sink.beside_taken l.sink ≡ g.W.Sink.beside_taken l.initial.sink;
  count : g.W.Faulted.faults l.sink ≡ g.W.Faulted.faults l.initial.sink;
}

abbrev pub decreases-loop-done : goal.decreases-loop-done
decreases-loop-done g l = length l.bytes - l.done
