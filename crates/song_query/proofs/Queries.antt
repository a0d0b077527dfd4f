-- Queries of the program correspond one to one to trees.
use Rattle.std.proofs.Common.{◌≡◌, List, [], ◌∷◌, refl, ap, sym, ◌∙◌}
use Rattle.item_model.specs.QueryTree.{QueryTree, condition, and_of, or_of, QueryTrees, no_queries, more_queries, queries_of, query_list}
use Rattle.item_model.specs.QuerySeen.{tree_of}
use Rattle.item_model.specs.declared.query.Query.{Query}
use Rattle.item_model.specs.declared.query.Query.TheVariants.{Cond, And, Or}

-- the query of a tree
abbrev pub query_of : QueryTree → Query
query_of (condition c) = Cond c
query_of (and_of qs) = And (query_list qs)
query_of (or_of qs) = Or (query_list qs)

list_again : (qs : QueryTrees) → queries_of (query_list qs) ≡ qs
list_again no_queries = refl
list_again (more_queries q qs) = ap (more_queries q) (list_again qs)

again_list : (qs : List QueryTree) → query_list (queries_of qs) ≡ qs
again_list [] = refl
again_list (q ∷ qs) = ap (λ rest. q ∷ rest) (again_list qs)

-- each tree is that of its query
pub query_back : (t : QueryTree) → tree_of (query_of t) ≡ t
query_back (condition c) = refl
query_back (and_of qs) = ap and_of (list_again qs)
query_back (or_of qs) = ap or_of (list_again qs)

query_again : (q : Query) → query_of (tree_of q) ≡ q
query_again (Cond c) = refl
query_again (And qs) = ap (λ members. And members) (again_list qs)
query_again (Or qs) = ap (λ members. Or members) (again_list qs)

-- and of no other query
pub one_query : (q r : Query) → tree_of q ≡ tree_of r → q ≡ r
one_query q r h = sym (query_again q) ∙ ap query_of h ∙ query_again r
