-- The tree that represents a query of the program.
use Rattle.item_model.specs.QueryTree.{QueryTree, condition, and_of, or_of, queries_of}
use Rattle.item_model.specs.declared.query.Query.{Query}
use Rattle.item_model.specs.declared.query.Query.TheVariants.{Cond, And, Or}

abbrev pub tree_of : Query → QueryTree
tree_of (Cond c) = condition c
tree_of (And qs) = and_of (queries_of qs)
tree_of (Or qs) = or_of (queries_of qs)
