use Rattle.std.proofs.Common.{length, subst}
use Rattle.outside_disks.specs.Disks.{Torn, Follows}
use Rattle.outside_disks.specs.MemDisk.{IsImage}
use Rattle.outside_disks.proofs.Moments.{elapses}
use Rattle.outside_disks.proofs.memory.disk.MemDiskDisk.write_at.Goals as goal

pub returns-clause-torn : goal.returns-clause-torn
returns-clause-torn c =
    subst (λ stand. Follows (Torn c.args.at (length c.args.piece.now)) (IsImage stand) (IsImage c.write.new.self)) c.record-done.ensures.stand_stays c.write.ensures.torn

pub returns-clause-time : goal.returns-clause-time
returns-clause-time c = elapses _ c.write.new.self _ _ c.record-done.ensures.adds
