use Rattle.std.proofs.Common.{◌++◌, map, take, subst}
use Rattle.item_model.specs.declared.property.Property.TheVariants.{Minm}
use Rattle.row_sheets.specs.Cells.{cell, AreCells, HasValue}
use Rattle.row_sheets.proofs.CellFacts.{each_more, row_more}
use Rattle.row_sheets.proofs.cells.Cells.push_row.Goals as goal

pub loop-property-preserved : goal.loop-property-preserved
loop-property-preserved c = record {
  cells = λ done are.
      let before = done ++ map (cell c.args.item.now) (take c.loop-property.property-index c.args.properties.now) in
      subst (λ cells. AreCells cells c.push.new.self.bytes.items c.push.new.self.starts.items) (row_more done c.args.item.now c.args.properties.now c.loop-property.property-index Minm c.loop-property-test.true)
      (c.in_ok-push.ensures.cells before (c.loop-property.invariant.cells done are));
  values = each_more (HasValue c.args.item.now) c.args.properties.now c.loop-property.property-index Minm c.loop-property-test.true c.loop-property.invariant.values c.in_ok-push.ensures.value;
}
