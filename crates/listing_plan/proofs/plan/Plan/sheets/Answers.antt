use Rattle.std.proofs.Common.{arith}
use Rattle.std.proofs.lemmas.List.{length-map}
use Rattle.listing_plan.specs.Held.{plan_row}
use Rattle.listing_plan.proofs.Writing.{none_gone}
use Rattle.listing_plan.proofs.plan.Plan.sheets.Goals as goal

pub invariant_of-result : goal.invariant_of-result
invariant_of-result c = record {
  few = omega (arith, length-map c.args.rows (plan_row c.args.target), c.requires);
  gone = none_gone;
  counted = tt;
}
