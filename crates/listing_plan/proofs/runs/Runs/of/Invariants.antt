use Rattle.listing_plan.proofs.RunFacts.{AskedFrom}
use Rattle.listing_plan.proofs.runs.Runs.of.Given as goal

-- what was passed is in the runs, where the sheet has it
abbrev pub invariant-loop-property : goal.invariant-loop-property
invariant-loop-property l = AskedFrom l.properties l.asked l.property-index l.runs
