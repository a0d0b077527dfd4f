-- Sizes of queries, by which recursions over them terminate.
use Rattle.std.proofs.Common.{◌<◌, ℕ, zero, suc, List, [], ◌∷◌, map, length, get_or, arith}
use Rattle.item_model.specs.QueryTree.{query_size, query_sizes, queries_of}
use Rattle.item_model.specs.QuerySeen.{tree_of}
use Rattle.item_model.specs.declared.query.Query.{Query}

-- a member is smaller than all members together
pub member_falls : (qs : List Query) (i : ℕ) (d : Query) → i < length qs → query_size (tree_of (get_or qs i d)) < query_sizes (queries_of (map tree_of qs))
member_falls [] i d h = absurd (omega arith)
member_falls (q ∷ qs) zero d h = omega arith
member_falls (q ∷ qs) (suc i) d h = omega (arith, member_falls qs i d (omega arith))
