-- How deep forms and queries are: the maximum number of parentheses that are open at once in their texts.
use Rattle.std.proofs.Common.{ℕ, suc, max}
use Rattle.item_model.specs.QueryTree.{QueryTree, condition, and_of, or_of, QueryTrees, no_queries, more_queries}
use Rattle.song_query.specs.Grammar.{UnitForm, cond, group, AndForm, one, more, OrForm, only, either}

abbrev mutual
  pub unit_depth : UnitForm → ℕ
  unit_depth (cond c) = 0
  unit_depth (group g o h) = suc (or_depth o)

  pub and_depth : AndForm → ℕ
  and_depth (one u) = unit_depth u
  and_depth (more a b g u) = max (and_depth a) (unit_depth u)

  pub or_depth : OrForm → ℕ
  or_depth (only a) = and_depth a
  or_depth (either o g h a) = max (or_depth o) (and_depth a)

abbrev mutual
  -- of a query as a whole text, as a unit, and as a member
  pub depth : QueryTree → ℕ
  depth (condition c) = 0
  depth (and_of qs) = units_depth qs
  depth (or_of qs) = members_depth qs

  pub depth_in_and : QueryTree → ℕ
  depth_in_and (condition c) = 0
  depth_in_and (and_of qs) = suc (units_depth qs)
  depth_in_and (or_of qs) = suc (members_depth qs)

  pub depth_in_or : QueryTree → ℕ
  depth_in_or (condition c) = 0
  depth_in_or (and_of qs) = units_depth qs
  depth_in_or (or_of qs) = suc (members_depth qs)

  pub units_depth : QueryTrees → ℕ
  units_depth no_queries = 0
  units_depth (more_queries q qs) = max (depth_in_and q) (units_depth qs)

  pub members_depth : QueryTrees → ℕ
  members_depth no_queries = 0
  members_depth (more_queries q qs) = max (depth_in_or q) (members_depth qs)
