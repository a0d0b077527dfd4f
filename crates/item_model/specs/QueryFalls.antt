-- The contents of a query are smaller than the query.
use Rattle.std.specs.Prelude.{◌≤◌, List, [], ◌∷◌, map}
use Rattle.std.proofs.Common.{arith}
use denote.Param.Weighed.{most}
use Rattle.item_model.specs.QueryTree.{queries_of, query_size, query_sizes}
use Rattle.item_model.specs.QuerySeen.{tree_of}
use Rattle.item_model.specs.declared.query.Query.{Query}
use Rattle.item_model.specs.declared.query.Query.TheVariants.{Cond, And, Or}
use Rattle.item_model.specs.declared.query.Queries.TheDeep.{deep-Query}

-- a list of queries is smaller than the query that has it
pub query_falls : (q : Query) → deep-Query q ≤ query_size (tree_of q)
query_falls (Cond c) = omega arith
query_falls (And qs) = omega arith
query_falls (Or qs) = omega arith

-- no member is larger than all of them together
pub most_within : (qs : List Query) → most deep-Query qs ≤ query_sizes (queries_of (map tree_of qs))
most_within [] = omega arith
most_within (q ∷ qs) = omega (arith, query_falls q, most_within qs)
