use Rattle.std.proofs.Common.{rules}
use Rattle.row_sheets.specs.Cells.{cell}
use Rattle.row_sheets.proofs.CellFacts.{cells_more}
use Rattle.row_sheets.proofs.cells.Cells.push.Goals as goal

pub returns-clause-cells : goal.returns-clause-cells
returns-clause-cells c = λ done are.
    cells_more done (cell c.args.item.now c.args.property) c.args.self.now.bytes.items c.args.self.now.starts.items c.push_cell.new.bytes.items c.push.new.self.items c.in-Ok.end are c.in_ok-push_cell.ensures.cell (search rules) c.in_ok-push.ensures.items
