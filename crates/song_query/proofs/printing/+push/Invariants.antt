use Rattle.std.proofs.Common.{◌≡◌, ◌++◌, ◌+◌, ◌*◌, drop, map, string_bytes}
use Rattle.item_model.specs.QueryTree.{query_size, query_sizes, queries_of}
use Rattle.item_model.specs.QuerySeen.{tree_of}
use Rattle.song_query.specs.Printing.{printed_and_more, printed_or_more}
use Rattle.song_query.proofs.printing.+push.Given as goal

abbrev pub decreases-push_unit : goal.decreases-push_unit
decreases-push_unit l = 2 * query_size (tree_of l.query.now)

abbrev pub decreases-push_member : goal.decreases-push_member
decreases-push_member l = 2 * query_size (tree_of l.query.now)

abbrev pub decreases-push_closed_and : goal.decreases-push_closed_and
decreases-push_closed_and l = 2 * query_sizes (queries_of (map tree_of l.units.now)) + 2

abbrev pub decreases-push_closed_or : goal.decreases-push_closed_or
decreases-push_closed_or l = 2 * query_sizes (queries_of (map tree_of l.members.now)) + 2

abbrev pub decreases-push_and : goal.decreases-push_and
decreases-push_and l = 2 * query_sizes (queries_of (map tree_of l.units.now)) + 1

abbrev pub decreases-push_more_units : goal.decreases-push_more_units
decreases-push_more_units l = 2 * query_sizes (queries_of (map tree_of l.units.now))

abbrev pub decreases-push_or : goal.decreases-push_or
decreases-push_or l = 2 * query_sizes (queries_of (map tree_of l.members.now)) + 1

abbrev pub decreases-push_more_members : goal.decreases-push_more_members
decreases-push_more_members l = 2 * query_sizes (queries_of (map tree_of l.members.now))

-- the text so far and that of the units left are the text of all
abbrev pub invariant-push_more_units-loop-unit : goal.invariant-push_more_units-loop-unit
invariant-push_more_units-loop-unit l =
    string_bytes l.out ++ printed_and_more (queries_of (map tree_of (drop l.unit-index l.units)))
    ≡ string_bytes l.fn.out ++ printed_and_more (queries_of (map tree_of l.units))

abbrev pub invariant-push_more_members-loop-member : goal.invariant-push_more_members-loop-member
invariant-push_more_members-loop-member l =
    string_bytes l.out ++ printed_or_more (queries_of (map tree_of (drop l.member-index l.members)))
    ≡ string_bytes l.fn.out ++ printed_or_more (queries_of (map tree_of l.members))
