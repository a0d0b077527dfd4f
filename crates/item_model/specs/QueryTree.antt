-- A query as contracts see it: a condition, or two or more queries of which all or one hold.
use Rattle.std.specs.Prelude.{ℕ, List, [], ◌∷◌, ◌+◌, suc}
use Rattle.item_model.specs.declared.condition.Cond.{Cond}

mutual
  pub data QueryTree : Type 0 where
    condition : Cond → QueryTree
    and_of : QueryTrees → QueryTree
    or_of : QueryTrees → QueryTree

  pub data QueryTrees : Type 0 where
    no_queries : QueryTrees
    more_queries : QueryTree → QueryTrees → QueryTrees

abbrev pub queries_of : List QueryTree → QueryTrees
queries_of [] = no_queries
queries_of (q ∷ qs) = more_queries q (queries_of qs)

abbrev pub query_list : QueryTrees → List QueryTree
query_list no_queries = []
query_list (more_queries q qs) = q ∷ query_list qs

-- a size for recursion: a query is larger than its contents
abbrev mutual
  pub query_size : QueryTree → ℕ
  query_size (condition c) = 1
  query_size (and_of qs) = suc (suc (query_sizes qs))
  query_size (or_of qs) = suc (suc (query_sizes qs))

  pub query_sizes : QueryTrees → ℕ
  query_sizes no_queries = 0
  query_sizes (more_queries q qs) = suc (query_size q + query_sizes qs)
