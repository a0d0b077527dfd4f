use Rattle.std.proofs.Common.{◌≡◌, length}
use Rattle.http_front.specs.Targets.{from_slash}
use Rattle.http_front.proofs.targets.from_slash.Given as goal

abbrev pub invariant-loop-rest : goal.invariant-loop-rest
invariant-loop-rest l = from_slash l.bytes ≡ from_slash l.rest

abbrev pub decreases-loop-rest : goal.decreases-loop-rest
decreases-loop-rest l = length l.rest
