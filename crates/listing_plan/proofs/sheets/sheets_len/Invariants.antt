use Rattle.std.proofs.Common.{◌≡◌, ◌≤◌, ◌+◌, ◌*◌, length, drop}
use Rattle.row_sheets.specs.Sheets.{rows_in}
use Rattle.listing_plan.specs.Held.{sheet_bytes}
use Rattle.listing_plan.specs.Limits.{row_limit}
use Rattle.listing_plan.proofs.sheets.sheets_len.Given as goal

-- the sheets that were passed are counted, and those that are left complete them
abbrev pub invariant-loop-sheet : goal.invariant-loop-sheet
invariant-loop-sheet l = record {
  counted : l.len + length (sheet_bytes l.target l.asked (rows_in (drop l.sheet-index l.sheet-items))) ≡ length (sheet_bytes l.target l.asked (rows_in l.sheet-items));
  short : l.len + row_limit * length (rows_in (drop l.sheet-index l.sheet-items)) ≤ row_limit * length (rows_in l.sheet-items);
}
