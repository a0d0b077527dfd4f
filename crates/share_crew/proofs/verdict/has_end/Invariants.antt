use Rattle.std.proofs.Common.{◌≡◌, map, drop}
use Rattle.share_crew.specs.Verdicts.{end_number, has_end}
use Rattle.share_crew.proofs.verdict.has_end.Given as goal

abbrev pub invariant-loop-worker : goal.invariant-loop-worker
invariant-loop-worker g l = (l.number ≡ end_number l.fn.end) × (has_end l.fn.end (map (λ w. w.end) (drop l.worker-index l.crew)) ≡ has_end l.fn.end (map (λ w. w.end) l.crew))
