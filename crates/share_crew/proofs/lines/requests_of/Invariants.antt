use Rattle.std.proofs.Common.{◌≡◌, ◌+◌, length, drop}
use Rattle.share_workers.specs.Works.{all_served}
use Rattle.share_crew.proofs.lines.requests_of.Given as goal

abbrev pub invariant-loop-link : goal.invariant-loop-link
invariant-loop-link l = l.count + length (all_served (drop l.link-index l.links)) ≡ length (all_served l.links)
