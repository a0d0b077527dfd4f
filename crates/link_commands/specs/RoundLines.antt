-- The line of each round of a mirror, and the rows that the mirror holds.
use Rattle.std.specs.Prelude.{ℕ, Bool, true, false, List, [], ◌∷◌, ◌++◌, flat_map, map, codes, decimal}
use Rattle.dmap_tags.specs.Codes.{code}
use Rattle.dmap_tags.specs.Tree.{Tree, list, none, more, trees_of}
use Rattle.dmap_show.specs.Shown.{shown_tags}
use Rattle.mirror_core.specs.declared.mirror.Applied.{Applied}

abbrev pub form_word : Bool → List ℕ
form_word true = codes " delta"
form_word false = codes " full"

-- the revision, whether the listing was a delta, and how many rows were put, were dropped and are then held
abbrev pub round_line : Applied → List ℕ
round_line a =
    codes "revision " ++ (decimal a.revision ++ (form_word a.delta ++ (codes " put " ++ (decimal a.put ++ (codes " drop " ++ (decimal a.dropped
    ++ (codes " rows " ++ (decimal a.rows ++ 10 ∷ []))))))))

abbrev pub round_lines : List Applied → List ℕ
round_lines applied = flat_map round_line applied

-- rows with their keys, as one listing
abbrev pub shown_rows : List (ℕ × Tree) → List ℕ
shown_rows rows = shown_tags 0 (more (list (code "mlcl") (trees_of (map (λ row. row.1) rows))) none)
