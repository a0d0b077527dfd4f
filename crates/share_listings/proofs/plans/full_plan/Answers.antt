use Rattle.std.proofs.Common.{ap, ◌∙◌, rules}
use Rattle.listing_plan.specs.declared.plan.Plan.TheVariants.{Rows}
use Rattle.share_listings.proofs.PlanFacts.{part_of_rows, full_made}
use Rattle.share_listings.proofs.plans.full_plan.Goals as goal

pub full-requires : goal.full-requires
full-requires c = record { rows = part_of_rows c.args.target c.args.look.range c.args.rows.items c.in_range-listed.result.items c.requires c.in_range-listed.ensures }

pub returns : goal.returns
returns c =
    c.full.ensures
    ∙ ap (λ l. Rows (record { target = c.args.target; listing = l }))
    (full_made c.args.target c.args.revision c.len-total.result c.args.look c.args.rows.items c.in_range-listed.result.items (search rules) c.in_range-listed.ensures)
