use Rattle.std.proofs.Common.{◌≡◌}
use Rattle.std.specs.Cmp.Lexicographic.{slice_cmp}
use Rattle.std.specs.Ordering.{nat_cmp}
use Rattle.std.specs.FinMap.{get, find}
use Rattle.outside_disks.specs.Closed.{entries_of, contents_of}
use Rattle.outside_disks.proofs.memory.closed.ClosedFiles.bytes_of.Given as goal

abbrev pub invariant-loop-rest : goal.invariant-loop-rest
invariant-loop-rest l = get (contents_of l.self) l.name ≡ find (slice_cmp nat_cmp) l.name (entries_of l.rest)
