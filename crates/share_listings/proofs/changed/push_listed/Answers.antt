use Rattle.std.proofs.Common.{sym, ap, ◌∙◌, refl}
use Rattle.listing_plan.specs.Plans.{keyed}
use Rattle.share_listings.specs.Changes.{listed_in}
use Rattle.share_listings.proofs.ChangeFacts.{listed_there, listed_more}
use Rattle.std.proofs.lemmas.Result.{on_ok_weaker}
use Rattle.share_listings.proofs.changed.push_listed.Goals as goal

pub returns-in-Listed-clause-rows : goal.returns-in-Listed-clause-rows
returns-in-Listed-clause-rows c =
    on_ok_weaker c.push_shared.result
    (λ pushed bs look stands change.
    let row = c.in-Listed.row.now in
    let is = sym (ap listed_in c.in-Listed.is) ∙ change.listed in
    listed_more bs c.args.target look c.args.key row (keyed c.args.rows.now.items) (keyed c.push_shared.new.rows.items) is
    (pushed bs row stands (listed_there bs c.args.target look c.args.key row is) refl))
    c.push_shared.ensures.rows
