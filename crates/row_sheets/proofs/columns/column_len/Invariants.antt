use Rattle.std.proofs.Common.{◌≡◌, take, get_or}
use Rattle.item_model.specs.declared.property.Property.{Property}
use Rattle.row_sheets.specs.Cells.{column_length}
use Rattle.row_sheets.proofs.columns.column_len.Given as goal

abbrev pub invariant-loop-row : goal.invariant-loop-row
invariant-loop-row l = (d : Property) → l.len ≡ column_length (take l.row l.rows) (get_or l.properties l.index d)
