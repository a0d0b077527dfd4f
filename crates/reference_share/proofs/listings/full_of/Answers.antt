-- The rows of the range are shown, and nothing is deleted.
use Rattle.reference_share.proofs.FoundFacts.{full_made}
use Rattle.reference_share.proofs.listings.full_of.Goals as goal

pub returns : goal.returns
returns c =
    full_made c.args.revision c.args.target c.args.look.now c.args.all.now c.in_range.result.now c.in_ok-rows.rows.items c.new.result.items c.in_range.ensures c.in_ok-rows.ensures
    c.new.ensures.items
