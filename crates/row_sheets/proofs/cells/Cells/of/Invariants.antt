use Rattle.std.proofs.Common.{◌<◌, ℕ, take, get_or, All}
use Rattle.item_model.specs.declared.item.Row.{Row}
use Rattle.row_sheets.specs.Cells.{cells_of, AreCells, HasValue}
use Rattle.row_sheets.proofs.cells.Cells.of.Given as goal

abbrev pub invariant-loop-row : goal.invariant-loop-row
invariant-loop-row l = record {
  cells : AreCells (cells_of l.properties (take l.row-index l.rows)) l.cells.bytes.items l.cells.starts.items;
  values : (k : ℕ) (d : Row) → k < l.row-index → All (HasValue (get_or l.rows k d).item) l.properties;
}
