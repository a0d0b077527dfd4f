use Rattle.std.proofs.Common.{◌≡◌, ◌+◌, map, drop}
use Rattle.share_crew.specs.Lines.{links_in}
use Rattle.share_crew.proofs.lines.links_in.Given as goal

abbrev pub invariant-loop-links : goal.invariant-loop-links
invariant-loop-links l = l.count + links_in (map (λ links. links.items) (drop l.links-index l.workers)) ≡ links_in (map (λ links. links.items) l.workers)
