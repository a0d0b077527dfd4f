use Rattle.std.proofs.Common.{◌∷◌, decimal, map, take}
use Rattle.csv.specs.Records.{AllText}
use Rattle.records_import.specs.Writing.{HasCells}
use Rattle.records_import.specs.Written.{written_cell, written_id, written_kind, written_op}
use Rattle.records_import.proofs.writing.edit_row.Given as goal

-- the cells so far
abbrev pub invariant-loop-column : goal.invariant-loop-column
invariant-loop-column l = record {
  cells : HasCells l.row (written_op l.edit ∷ written_kind l.edit ∷ decimal (written_id l.edit) ∷ map (written_cell l.edit) (take l.column-index l.columns));
  utf8 : AllText (map (written_cell l.edit) (take l.column-index l.columns));
}
