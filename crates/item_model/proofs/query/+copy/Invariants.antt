use Rattle.std.proofs.Common.{◌≡◌, take}
use Rattle.item_model.proofs.query.+copy.Given as goal

-- the copies are a prefix of the queries
abbrev pub invariant-copies-loop-query : goal.invariant-copies-loop-query
invariant-copies-loop-query l = l.copies.items ≡ take l.query-index l.queries
