use Rattle.std.proofs.Common.{◌≡◌, false}
use Rattle.http_heads.specs.Gathering.{IsAt, is_whole}
use Rattle.http_tests.proofs.heads.first_message.Given as goal

abbrev pub invariant-loop-piece : goal.invariant-loop-piece
invariant-loop-piece l = (IsAt l.gatherer) × (is_whole l.gatherer.phase ≡ false)
