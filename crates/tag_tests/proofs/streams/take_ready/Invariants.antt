use Rattle.std.proofs.Common.{◌≡◌}
use Rattle.dmap_stream.specs.Reader.{taken}
use Rattle.tag_tests.proofs.streams.take_ready.Given as goal

abbrev pub invariant-loop : goal.invariant-loop
invariant-loop l = (taken l.reader ≡ taken l.initial.reader) × (l.reader.error ≡ l.initial.reader.error)
