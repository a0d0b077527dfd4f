-- The lines of a relay.
use Rattle.std.specs.Prelude.{ℕ, List, [], ◌∷◌, ◌++◌, Bool, codes, decimal, if◌then◌else◌}
use Rattle.std.specs.List.{flat_map}
use Rattle.relay_share.specs.declared.report.Relayed.{Relayed}

-- the first line, once both addresses are open
abbrev pub relaying_line : (name : List ℕ) → List ℕ
relaying_line name = (codes "relaying " ++ name) ++ 10 ∷ []

abbrev pub kind_of : Bool → List ℕ
kind_of delta = if delta then codes " delta puts " else codes " full puts "

-- the line of a listing that was relayed
abbrev pub round_line : Relayed → List ℕ
round_line r =
    ((((codes "upstream " ++ decimal r.upstream) ++ (kind_of r.delta ++ decimal r.puts)) ++ (codes " drops " ++ decimal r.drops)) ++ (codes " revision " ++ decimal r.revision)) ++ 10 ∷ []

abbrev pub round_lines : List Relayed → List ℕ
round_lines rounds = flat_map round_line rounds
