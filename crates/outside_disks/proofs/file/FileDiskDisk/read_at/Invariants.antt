use Rattle.std.proofs.Common.{◌≡◌}
use Rattle.outside_disks.proofs.file.FileDiskDisk.read_at.Given as goal

-- an interrupted call is not an error
abbrev pub invariant-loop : goal.invariant-loop
invariant-loop l = l.self.faults ≡ l.initial.self.faults
