use Rattle.std.proofs.Common.{◌∙◌, ap, sym}
use Rattle.listing_plan.specs.Held.{listed_length, listed_rows}
use Rattle.listing_plan.proofs.Bodies.{held_length}
use Rattle.listing_plan.proofs.plan.RowPlan.rows_len.Goals as goal

pub returns-clause-counted : goal.returns-clause-counted
returns-clause-counted c =
    let a = c.self.inside in
    c.bytes_len.ensures.counted ∙ sym (held_length a.shown (listed_rows a.target a.rows)) ∙ ap listed_length c.self.view_is
