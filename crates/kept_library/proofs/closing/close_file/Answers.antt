use Rattle.std.proofs.Common.{subst}
use Rattle.outside_disks.specs.Contents.{ClosesFile}
use Rattle.kept_library.proofs.Told.{leaves_at, leaves_broken}
use Rattle.kept_library.proofs.closing.close_file.Goals as goal

pub returns-clause-kept : goal.returns-clause-kept
returns-clause-kept g c path batches sound has place =
    leaves_at g.F.D.Disk path batches _ _ c.args.file sound has place
    (subst (λ disk. ClosesFile (g.F.Files.contents c.args.files.now) (g.F.Files.contents c.close.new.self) (g.F.D.Disk.opened_as disk) (g.F.D.Disk.bytes disk)) c.into_disk.ensures c.close.ensures.closed)

pub returns-then-is_broken-clause-lost : goal.returns-then-is_broken-clause-lost
returns-then-is_broken-clause-lost g c path batches broken has place =
    leaves_broken g.F.D.Disk g.met.F.D.Disk.bytes_count path batches _ _ c.args.file broken has place
    (subst (λ disk. ClosesFile (g.F.Files.contents c.args.files.now) (g.F.Files.contents c.close.new.self) (g.F.D.Disk.opened_as disk) (g.F.D.Disk.bytes disk)) c.into_disk.ensures c.close.ensures.closed)
