use Rattle.std.proofs.Common.{◌++◌, ◌∙◌, sym, ap}
use Rattle.listing_plan.specs.Runs.{front_bytes}
use Rattle.listing_plan.proofs.sheet_row.put_front.Goals as goal

pub returns-in-Items-clause-put : goal.returns-in-Items-clause-put
returns-in-Items-clause-put g c =
    c.put.ensures.put ∙ ap (λ bytes. c.args.page.now ++ bytes) c.item_front.ensures
    ∙ ap (λ target. c.args.page.now ++ front_bytes target c.args.len c.args.id) (sym c.in-Items.is)

pub returns-in-Container-clause-put : goal.returns-in-Container-clause-put
returns-in-Container-clause-put g c =
    c.put-in-Container.ensures.put ∙ ap (λ bytes. c.args.page.now ++ bytes) (c.member_front.ensures c.in-Container.field-0)
    ∙ ap (λ target. c.args.page.now ++ front_bytes target c.args.len c.args.id) (sym c.in-Container.is)
