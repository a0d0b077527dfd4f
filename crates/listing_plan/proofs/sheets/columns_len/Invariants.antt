use Rattle.std.proofs.Common.{◌≡◌, take}
use Rattle.std.specs.List.{sum_by}
use Rattle.row_sheets.specs.Cells.{column_length}
use Rattle.listing_plan.proofs.sheets.columns_len.Given as goal

-- the properties that were passed are counted
abbrev pub invariant-loop-property : goal.invariant-loop-property
invariant-loop-property l = l.len ≡ sum_by (column_length l.sheet.rows) (take l.property-index l.asked)
