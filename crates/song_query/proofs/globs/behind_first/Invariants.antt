use Rattle.std.proofs.Common.{◌≡◌, ℕ, List, ◌∷◌, length}
use Rattle.item_model.specs.Folding.{lowered}
use Rattle.song_query.specs.Glob.{joins, from_some}
use Rattle.song_query.proofs.globs.behind_first.Given as goal

-- a search in the text has the result of a search in what is left of it
abbrev pub invariant-loop-left : goal.invariant-loop-left
invariant-loop-left l =
    (q : List ℕ) (ps : List (List ℕ)) → from_some (joins (lowered l.piece ∷ q ∷ ps)) (lowered l.text) ≡ from_some (joins (lowered l.piece ∷ q ∷ ps)) (lowered l.left)

abbrev pub decreases-loop-left : goal.decreases-loop-left
decreases-loop-left l = length l.left
