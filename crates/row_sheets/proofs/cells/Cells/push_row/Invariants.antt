use Rattle.std.proofs.Common.{◌<◌, ◌++◌, ℕ, List, map, take, get_or}
use Rattle.item_model.specs.declared.property.Property.{Property}
use Rattle.row_sheets.specs.Cells.{cell, AreCells, HasValue}
use Rattle.row_sheets.proofs.cells.Cells.push_row.Given as goal

abbrev pub invariant-loop-property : goal.invariant-loop-property
invariant-loop-property l = record {
  cells : (done : List (List ℕ)) → AreCells done l.fn.self.bytes.items l.fn.self.starts.items → AreCells (done ++ map (cell l.item) (take l.property-index l.properties)) l.self.bytes.items l.self.starts.items;
  values : (k : ℕ) (d : Property) → k < l.property-index → HasValue l.item (get_or l.properties k d);
}
