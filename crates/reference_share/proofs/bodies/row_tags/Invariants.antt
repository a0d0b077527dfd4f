use Rattle.std.proofs.Common.{◌≡◌, map}
use Rattle.reference_share.proofs.bodies.row_tags.Given as goal

abbrev pub invariant-loop-row : goal.invariant-loop-row
invariant-loop-row l =
    l.tags ≡ map (λ row. row.1) l.yielded
