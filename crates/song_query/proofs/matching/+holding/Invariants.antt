use Rattle.std.proofs.Common.{◌≡◌, drop, map}
use Rattle.item_model.specs.QueryTree.{query_size, query_sizes, queries_of}
use Rattle.item_model.specs.QuerySeen.{tree_of}
use Rattle.song_query.specs.Holds.{all_hold, some_hold}
use Rattle.song_query.proofs.matching.+holding.Given as goal

abbrev pub decreases-does_hold : goal.decreases-does_hold
decreases-does_hold g l = query_size (tree_of l.query.now)

abbrev pub decreases-do_all_hold : goal.decreases-do_all_hold
decreases-do_all_hold g l = query_sizes (queries_of (map tree_of l.members.now))

abbrev pub decreases-does_one_hold : goal.decreases-does_one_hold
decreases-does_one_hold g l = query_sizes (queries_of (map tree_of l.members.now))

-- all members match if those left do
abbrev pub invariant-do_all_hold-loop-member : goal.invariant-do_all_hold-loop-member
invariant-do_all_hold-loop-member g l =
    all_hold (queries_of (map tree_of (drop l.member-index l.members))) (g.R.Searched.represents l.row) ≡ all_hold (queries_of (map tree_of l.members)) (g.R.Searched.represents l.row)

-- one member matches if one of those left does
abbrev pub invariant-does_one_hold-loop-member : goal.invariant-does_one_hold-loop-member
invariant-does_one_hold-loop-member g l =
    some_hold (queries_of (map tree_of (drop l.member-index l.members))) (g.R.Searched.represents l.row) ≡ some_hold (queries_of (map tree_of l.members)) (g.R.Searched.represents l.row)
