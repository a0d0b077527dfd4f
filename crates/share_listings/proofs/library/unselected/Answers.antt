use Rattle.std.proofs.Common.{sym, ap, ◌∙◌}
use Rattle.listing_plan.specs.declared.plan.Plan.TheVariants.{Rows}
use Rattle.share_history.specs.Histories.{revision, edits}
use Rattle.share_history.specs.Listings.{full_of}
use Rattle.share_history.specs.Rows.{rows}
use Rattle.share_listings.proofs.OnSuccess.{if_ok}
use Rattle.share_listings.proofs.library.unselected.Goals as goal

pub plan_range-requires : goal.plan_range-requires
plan_range-requires c = record { few = c.requires.few; all = c.requires.all }

pub returns : goal.returns
returns c =
    let t = c.args.target in
    let look = c.args.look in
    if_ok c.plan_range.result
    (λ plan told bs stands. told bs stands ∙ ap (λ q. Rows (record { target = t; listing = full_of (revision bs) t look (rows (edits bs) t q) })) (sym c.requires.query))
    c.plan_range.ensures
