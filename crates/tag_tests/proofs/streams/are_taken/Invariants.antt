use Rattle.std.proofs.Common.{◌≡◌, None, ◌+◌, length}
use Rattle.dmap_stream.specs.Reader.{taken}
use Rattle.tag_tests.proofs.streams.are_taken.Given as goal

abbrev pub invariant-loop-count : goal.invariant-loop-count
invariant-loop-count l = (l.reader.error ≡ None) × (taken l.reader + length l.rest ≡ length l.bytes)
