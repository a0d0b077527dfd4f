use Rattle.std.proofs.Common.{arith}
use Rattle.listing_plan.proofs.RunFacts.{asked_few}
use Rattle.listing_plan.proofs.runs.Runs.of.Goals as goal

pub mention-requires-clause-room : goal.mention-requires-clause-room
mention-requires-clause-room c =
    omega (arith, c.loop-property.invariant.few, c.loop-property-test.true, asked_few c.args.asked.now c.requires)
