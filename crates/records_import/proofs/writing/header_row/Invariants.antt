use Rattle.std.proofs.Common.{◌∷◌, codes, map, take}
use Rattle.records_import.specs.Writing.{HasCells}
use Rattle.records_import.specs.Written.{column_name}
use Rattle.records_import.proofs.writing.header_row.Given as goal

-- the names so far
abbrev pub invariant-loop-column : goal.invariant-loop-column
invariant-loop-column l = HasCells l.row (codes "op" ∷ codes "kind" ∷ codes "id" ∷ map column_name (take l.column-index l.columns))
