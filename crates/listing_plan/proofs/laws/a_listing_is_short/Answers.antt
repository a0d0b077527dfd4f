use Rattle.listing_plan.proofs.Bodies.{listings_are_short}
use Rattle.listing_plan.proofs.laws.a_listing_is_short.Goals as goal

pub returns : goal.returns
returns c = listings_are_short
