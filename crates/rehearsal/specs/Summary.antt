-- The summary of a rehearsal.
use Rattle.std.specs.Prelude.{ℕ, List, [], ◌∷◌, ◌++◌, length, Option, None, codes, decimal}
use Rattle.item_model.specs.declared.changes.Edit.{Edit}
use Rattle.item_model.specs.declared.query.Query.{Query}
use Rattle.item_model.specs.declared.request.Target.TheVariants.{Items}
use Rattle.share_history.specs.Histories.{edits, revision}
use Rattle.share_history.specs.Rows.{rows, library}
use Rattle.rehearsal.specs.Asks.{asks, deltas, fulls}
use Rattle.rehearsal.specs.Queries.{artist_query, year_query}

-- a word, a space and a number
abbrev pub told : List ℕ → ℕ → List ℕ
told word n = word ++ codes " " ++ decimal n

abbrev pub line : List ℕ → List ℕ
line text = text ++ 10 ∷ []

abbrev pub mirror_text : (number rows full delta : ℕ) → List ℕ
mirror_text number rows full delta = line (told (codes "mirror") number ++ told (codes " rows") rows ++ told (codes " full") full ++ told (codes " delta") delta)

-- the line of a mirror: the rows of its query, and how many full listings and deltas it got
abbrev pub mirror_line : (keep : ℕ) → List (List Edit) → (number period : ℕ) → Option Query → List ℕ
mirror_line keep bs number period query =
    mirror_text number (length (rows (edits bs) Items query)) (fulls keep bs (asks period (length bs) (length bs))) (deltas keep bs (asks period (length bs) (length bs)))

abbrev pub summary_text : (keep : ℕ) → List (List Edit) → List ℕ
summary_text keep bs =
    line (told (codes "revision") (revision bs)) ++ line (told (codes "items") (length (library (edits bs))))
    ++ mirror_line keep bs 1 1 None ++ mirror_line keep bs 2 3 artist_query ++ mirror_line keep bs 3 300 year_query
