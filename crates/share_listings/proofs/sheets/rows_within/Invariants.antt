use Rattle.std.proofs.Common.{◌≡◌, ◌++◌, All, drop}
use Rattle.listing_plan.specs.Plans.{key_of, keyed}
use Rattle.row_sheets.specs.Sheets.{by_id, rows_in}
use Rattle.share_history.specs.Listings.{member_of}
use Rattle.share_listings.proofs.SheetFacts.{within}
use Rattle.share_listings.proofs.sheets.rows_within.Given as goal

-- the rows so far, with those on the sheets left that are in what is left of the window
abbrev pub invariant-loop-sheet : goal.invariant-loop-sheet
invariant-loop-sheet l = record {
  rows : keyed l.found.items ++ within l.left.from l.left.to (by_id (rows_in (drop l.sheet-index l.sheets)))
      ≡ within l.fn.window.from l.fn.window.to (by_id (rows_in l.sheets));
  members : All (λ row. row.member ≡ member_of l.target (key_of row)) l.found.items;
}
