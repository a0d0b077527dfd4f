use Rattle.std.proofs.Common.{rules}
use Rattle.listing_plan.proofs.plan.RowPlan.write.Goals as goal

pub returns-then-payload_len : goal.returns-then-payload_len
returns-then-payload_len g c = search rules

pub returns : goal.returns
returns g c = search rules
