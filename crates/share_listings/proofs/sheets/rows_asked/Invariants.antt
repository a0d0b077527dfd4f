use Rattle.std.proofs.Common.{◌≡◌, ◌≤◌, ◌+◌, ◌++◌, All, drop, filter, length, option_copied}
use Rattle.listing_plan.specs.Plans.{key_of, keyed}
use Rattle.row_sheets.specs.Sheets.{by_id, rows_in}
use Rattle.share_history.specs.Listings.{member_of}
use Rattle.share_history.specs.Rows.{is_selected}
use Rattle.share_listings.proofs.sheets.rows_asked.Given as goal

-- the rows so far, with those on the sheets left that are selected, and a tick for each row so far
abbrev pub invariant-loop-sheet : goal.invariant-loop-sheet
invariant-loop-sheet g l = record {
  rows : keyed l.found.items ++ filter (λ row. is_selected (option_copied l.query) row.1) (by_id (rows_in (drop l.sheet-index l.sheets)))
      ≡ filter (λ row. is_selected (option_copied l.query) row.1) (by_id (rows_in l.sheets));
  members : All (λ row. row.member ≡ member_of l.target (key_of row)) l.found.items;
  cost : l.steps + length (by_id (rows_in (drop l.sheet-index l.sheets))) ≤ l.initial.steps + length (by_id (rows_in l.sheets));
}
