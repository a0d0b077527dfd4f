use Rattle.std.proofs.Common.{arith}
use Rattle.std.proofs.lemmas.List.Sums.{sum_by_more, sum_by_more_le, sum_by-take-le}
use Rattle.item_model.specs.declared.property.Property.TheVariants.{Minm}
use Rattle.row_sheets.specs.Cells.{column_length}
use Rattle.listing_plan.proofs.SheetFacts.{columns_short}
use Rattle.listing_plan.proofs.sheets.columns_len.Goals as goal

pub overflow_add-len : goal.overflow_add-len
overflow_add-len c =
    let rows = c.args.sheet.now.rows in
    omega (arith, sum_by_more_le (column_length rows) c.args.asked.now c.loop-property.property-index Minm c.loop-property-test.true, columns_short rows c.args.asked.now c.requires.values c.requires.once, c.requires.few, c.loop-property.invariant, c.column_len-len.ensures)

pub loop-property-preserved : goal.loop-property-preserved
loop-property-preserved c =
    omega (arith, sum_by_more (column_length c.args.sheet.now.rows) c.args.asked.now c.loop-property.property-index Minm c.loop-property-test.true, c.loop-property.invariant, c.column_len-len.ensures)

pub returns-clause-short : goal.returns-clause-short
returns-clause-short c =
    let rows = c.args.sheet.now.rows in
    omega (arith, c.loop-property.invariant, sum_by-take-le (column_length rows) c.args.asked.now c.loop-property.property-index, columns_short rows c.args.asked.now c.requires.values c.requires.once)
