use Rattle.outside_disks.proofs.Moments.{elapses}
use Rattle.outside_disks.proofs.memory.disk.MemDiskDisk.cut.Goals as goal

pub returns-clause-time : goal.returns-clause-time
returns-clause-time c = elapses _ c.cut.new.self _ _ c.record-done.ensures.adds
