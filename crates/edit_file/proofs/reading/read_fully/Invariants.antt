use Rattle.std.proofs.Common.{◌≡◌, ◌≤◌, ◌-◌, length, take, drop, is_some, IfSome}
use Rattle.edit_file.specs.Moments.{IsQuiet}
use Rattle.edit_file.proofs.reading.read_fully.Given as goal

-- the first `done` bytes of the buffer are the disk's, and nothing was changed
abbrev pub invariant-loop-done : goal.invariant-loop-done
invariant-loop-done g l = record {
  within : l.done ≤ length l.room;
  size : length l.room ≡ length l.initial.room;
  front : IfSome (g.D.Disk.bytes l.initial.disk) (λ b. (take l.done l.room ≡ take l.done (drop l.at b)) × (l.done ≤ length (drop l.at b)));
  bytes : g.D.Disk.bytes l.disk ≡ g.D.Disk.bytes l.initial.disk;
  quiet : IsQuiet g.D.Disk l.initial.disk l.disk;
  told : is_some (g.D.Disk.bytes l.disk) ≡ is_some (g.D.Disk.bytes l.initial.disk);
  name : g.D.Disk.opened_as l.disk ≡ g.D.Disk.opened_as l.initial.disk;
  faultless : g.D.Faulted.faults l.disk ≡ g.D.Faulted.faults l.initial.disk;
}

abbrev pub decreases-loop-done : goal.decreases-loop-done
decreases-loop-done g l = length l.room - l.done
