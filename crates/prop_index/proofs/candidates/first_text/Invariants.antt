use Rattle.std.proofs.Common.{◌≡◌, map, drop}
use Rattle.item_model.specs.QuerySeen.{tree_of}
use Rattle.item_model.specs.QueryTree.{queries_of}
use Rattle.prop_index.specs.Candidates.{first_text}
use Rattle.prop_index.proofs.candidates.first_text.Given as goal

-- the members before ask for no text
abbrev pub invariant-loop-member : goal.invariant-loop-member
invariant-loop-member l =
    first_text (queries_of (map tree_of (drop l.member-index l.members))) ≡ first_text (queries_of (map tree_of l.members))
