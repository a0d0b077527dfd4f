use Rattle.std.proofs.Common.{◌≡◌, false, sym, subst}
use Rattle.item_model.specs.Projection.{mentions}
use Rattle.listing_plan.proofs.SheetFacts.{column_none}
use Rattle.listing_plan.proofs.sheets.column_len.Goals as goal

pub returns-in-None : goal.returns-in-None
returns-in-None c =
    let lacks = subst (λ ps. mentions ps c.args.property ≡ false) c.properties-properties.ensures.properties c.in-None.ensures.none in
    sym (column_none c.args.sheet.now.rows c.args.sheet.now.properties c.args.property c.properties-properties.ensures.others lacks)
