-- The rows of a sheet by their indices.
use Rattle.std.specs.Prelude.{ℕ, [], slice_index_or}
use Rattle.item_model.specs.declared.item.Row.{Row}
use Rattle.row_sheets.specs.Spelled.{Spelled}

-- a row without properties, past the last one
abbrev pub no_row : Row
no_row = record { id = 0; item = [] }

abbrev pub sheet_row : Spelled → ℕ → Row
sheet_row sheet index = slice_index_or sheet.rows index no_row
