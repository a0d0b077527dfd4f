use Rattle.std.proofs.Common.{◌≡◌, None, ◌+◌, length}
use Rattle.dmap_stream.specs.Reader.{taken}
use Rattle.tag_tests.proofs.streams.read.Given as goal

abbrev pub invariant-loop : goal.invariant-loop
invariant-loop l = (l.reader.error ≡ None) × (taken l.reader + length l.rest ≡ length l.bytes)
