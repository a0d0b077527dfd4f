-- The line that is written after all workers have ended.
use Rattle.std.specs.Prelude.{ℕ, List, [], ◌∷◌, ◌++◌, length, codes, decimal}
use Rattle.std.specs.List.{flat_map}
use Rattle.share_server.specs.declared.report.LinkReport.{LinkReport}
use Rattle.share_workers.specs.Works.{all_served}

-- the numbers of all connections of the workers, and of the requests that were served on them
abbrev pub links_in : List (List LinkReport) → ℕ
links_in workers = length (flat_map (λ links. links) workers)

abbrev pub requests_in : List (List LinkReport) → ℕ
requests_in workers = length (all_served (flat_map (λ links. links) workers))

abbrev pub ended_line : (revision : ℕ) → List (List LinkReport) → List ℕ
ended_line revision workers =
    (((codes "ended at revision " ++ decimal revision) ++ (codes ", links " ++ decimal (links_in workers))) ++ (codes ", requests " ++ decimal (requests_in workers))) ++ 10 ∷ []
