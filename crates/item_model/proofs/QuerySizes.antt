-- Sizes of queries, by which recursions over them terminate.
use Rattle.std.proofs.Common.{◌<◌, ℕ, zero, suc, List, [], ◌∷◌, length, get_or, arith}
use Rattle.item_model.specs.QueryTree.{QueryTree, queries_of, query_size, query_sizes}

-- a member of a list is smaller than all its members together
pub member_falls : (qs : List QueryTree) (i : ℕ) (d : QueryTree) → i < length qs → query_size (get_or qs i d) < query_sizes (queries_of qs)
member_falls [] i d h = absurd (omega arith)
member_falls (q ∷ qs) zero d h = omega arith
member_falls (q ∷ qs) (suc i) d h = omega (arith, member_falls qs i d (omega arith))
