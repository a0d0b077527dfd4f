use Rattle.std.proofs.Common.{◌≡◌, true, arith}
use Rattle.item_model.specs.declared.item.PropValue.TheVariants.{Number}
use Rattle.item_model.specs.Items.{is_value_of}
use Rattle.listing_plan.proofs.Short.{property_short, property_length}
use Rattle.listing_plan.proofs.lengths.value_len.Goals as goal

pub returns-in-Number-clause-short : goal.returns-in-Number-clause-short
returns-in-Number-clause-short c =
    let p = c.args.property in
    let n = c.in-Number.field-0 in
    let fits : is_value_of p (Number n) ≡ true = rw c.in-Number.is at c.requires in
    omega (arith, property_short p (Number n) fits, property_length p (Number n), rw c.kind.ensures at (c.number_len.ensures.counted n))
