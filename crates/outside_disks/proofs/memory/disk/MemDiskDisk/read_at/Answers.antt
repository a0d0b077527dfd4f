use Rattle.outside_disks.proofs.Moments.{elapses}
use Rattle.outside_disks.proofs.memory.disk.MemDiskDisk.read_at.Goals as goal

pub returns-in_err-record-clause-time : goal.returns-in_err-record-clause-time
returns-in_err-record-clause-time c = elapses _ c.record.new.self.stand _ _ c.record.ensures.adds

pub returns-clause-time : goal.returns-clause-time
returns-clause-time c = elapses _ c.record.new.self.stand _ _ c.record.ensures.adds
