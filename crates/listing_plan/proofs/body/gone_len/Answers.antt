use Rattle.std.proofs.Common.{arith}
use Rattle.listing_plan.proofs.Bodies.{gone_length}
use Rattle.listing_plan.proofs.body.gone_len.Goals as goal

pub returns-in-Delta-clause-counted : goal.returns-in-Delta-clause-counted
returns-in-Delta-clause-counted c = λ target. rw c.in-Delta.is (omega (arith, gone_length target c.in-Delta.gone.items))
