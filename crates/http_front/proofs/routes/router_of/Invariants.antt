use Rattle.std.proofs.Common.{◌≡◌, map, take}
use Rattle.http_front.specs.Routes.{rows_of}
use Rattle.http_front.proofs.routes.router_of.Given as goal

abbrev pub invariant-loop-path : goal.invariant-loop-path
invariant-loop-path l = l.router ≡ rows_of (map (λ entry. (entry.0.now, entry.1)) (take l.path-index l.table))
