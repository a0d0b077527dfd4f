use Rattle.records_import.proofs.Cells.{cell_missing, cell_there}
use Rattle.records_import.proofs.table.cell.Goals as goal

pub returns-in-Some : goal.returns-in-Some
returns-in-Some c = cell_there _ _ _ (rw c.in-Some.is at c.get.ensures.value)

pub returns-in-None : goal.returns-in-None
returns-in-None c = cell_missing _ _ (rw c.in-None.is at c.get.ensures.value)
