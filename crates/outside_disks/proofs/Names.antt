-- The bytes of a name among the files that were closed.
use Rattle.std.proofs.Common.{◌≡◌, ℕ, Bool, true, false, cond, List, [], ◌∷◌, ap, ◌∙◌}
use Rattle.std.specs.Prelude.{Some, unwrap_or}
use Rattle.std.specs.Cmp.Lexicographic.{slice_cmp}
use Rattle.std.specs.Ordering.{nat_cmp, eq_by_cmp}
use Rattle.std.specs.FinMap.{get, find}
use Rattle.outside_disks.specs.Contents.{Contents}

-- what the first of the files says of a name
first : (contents : Contents) (name kept bytes : List ℕ) (rest entries : List (List ℕ × List ℕ)) (same : Bool)
    → entries ≡ (kept, bytes) ∷ rest → get contents name ≡ find (slice_cmp nat_cmp) name entries
    → eq_by_cmp (slice_cmp nat_cmp) name kept ≡ same
    → get contents name ≡ cond same (Some bytes) (find (slice_cmp nat_cmp) name rest)
first contents name kept bytes rest entries same are got is =
    got ∙ (ap (find (slice_cmp nat_cmp) name) are ∙ ap (λ same. cond same (Some bytes) (find (slice_cmp nat_cmp) name rest)) is)

-- it has the name
pub found : (contents : Contents) (name kept bytes : List ℕ) (rest entries : List (List ℕ × List ℕ))
    → entries ≡ (kept, bytes) ∷ rest → get contents name ≡ find (slice_cmp nat_cmp) name entries
    → eq_by_cmp (slice_cmp nat_cmp) name kept ≡ true → unwrap_or (get contents name) [] ≡ bytes
found contents name kept bytes rest entries are got is =
    ap (λ bytes. unwrap_or bytes []) (first contents name kept bytes rest entries true are got is)

-- it has another
pub passed : (contents : Contents) (name kept bytes : List ℕ) (rest entries : List (List ℕ × List ℕ))
    → entries ≡ (kept, bytes) ∷ rest → get contents name ≡ find (slice_cmp nat_cmp) name entries
    → eq_by_cmp (slice_cmp nat_cmp) name kept ≡ false → get contents name ≡ find (slice_cmp nat_cmp) name rest
passed contents name kept bytes rest entries are got is = first contents name kept bytes rest entries false are got is
