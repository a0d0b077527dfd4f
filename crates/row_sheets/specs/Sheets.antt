-- The rows on some sheets, as one list, and each under its id.
use Rattle.std.specs.Prelude.{◌≡◌, ℕ, List, map, flat_map, length}
use Rattle.std.specs.Arc.{arc_value}
use Rattle.std.specs.declared.sync.Arc.{Arc}
use Rattle.item_model.specs.declared.item.Row.{Row}
use Rattle.share_history.specs.Keyed.{IsAscending}
use Rattle.row_sheets.specs.Spelled.{Spelled}

-- each row under its id
abbrev pub by_id : List Row → List (ℕ × Row)
by_id rows = map (λ row. (row.id, row)) rows

abbrev pub rows_on : {Z : Type 0} → Arc Spelled Z → List Row
rows_on sheet = let spelled : Spelled = arc_value sheet in spelled.rows

abbrev pub rows_in : {Z : Type 0} → List (Arc Spelled Z) → List Row
rows_in sheets = flat_map rows_on sheets

-- what is true of the sheets of a list of rows: the ids ascend, and the rows are counted
pub record AreSheets {Z : Type 0} (sheets : List (Arc Spelled Z)) (count : ℕ) : Type 0 where
  pub ascending : IsAscending (by_id (rows_in sheets))
  pub counted : count ≡ length (rows_in sheets)
