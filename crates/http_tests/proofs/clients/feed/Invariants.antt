use Rattle.std.proofs.Common.{◌≡◌, ◌+◌, None, length}
use Rattle.http_tests.proofs.clients.feed.Given as goal

abbrev pub invariant-loop-rest : goal.invariant-loop-rest
invariant-loop-rest l = (l.reader.ready ≡ None) × (l.reader.taken + length l.rest ≡ l.fn.reader.taken + length l.piece)

abbrev pub decreases-loop-rest : goal.decreases-loop-rest
decreases-loop-rest l = length l.rest
