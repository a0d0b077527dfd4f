-- No rows ascend.
use Rattle.std.proofs.Common.{[], sym, subst}
use Rattle.share_history.specs.Keyed.{IsAscending}
use Rattle.share_history.proofs.KeyedFacts.{sorted-ascending}
use Rattle.mirror_core.proofs.mirror.Mirror.new.Goals as goal

pub invariant_of-result : goal.invariant_of-result
invariant_of-result c = subst IsAscending (sym c.new.ensures.items) (sorted-ascending [])
