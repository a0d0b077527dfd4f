-- No listing has more rows than the history has edits.
use Rattle.std.proofs.Common.{arith}
use Rattle.share_history.specs.Histories.{batches}
use Rattle.reference_share.specs.ListingSeen.{listing_of}
use Rattle.reference_share.proofs.FoundFacts.{few_listed}
use Rattle.reference_share.proofs.bodies.listing_body.Goals as goal

pub body-requires : goal.body-requires
body-requires c =
    omega (arith, few_listed c.args.keep (batches c.args.history.now) c.args.target c.args.look.now (listing_of c.in_ok-listing.listing) c.in_ok-listing.ensures)
