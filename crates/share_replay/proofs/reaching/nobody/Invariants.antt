use Rattle.std.proofs.Common.{◌≡◌, replicate, None}
use Rattle.share_replay.proofs.reaching.nobody.Given as goal

abbrev pub invariant-loop-place : goal.invariant-loop-place
invariant-loop-place l = l.connections.items ≡ replicate l.place None
