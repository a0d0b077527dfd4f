use Rattle.std.proofs.Common.{◌≡◌, ◌≤◌, ◌+◌, ◌++◌, All, drop, filter, option_copied}
use Rattle.listing_plan.specs.Plans.{key_of, keyed}
use Rattle.row_sheets.specs.Sheets.{by_id}
use Rattle.share_history.specs.Listings.{member_of}
use Rattle.share_history.specs.Rows.{is_selected}
use Rattle.share_listings.proofs.sheets.push_asked.Given as goal

abbrev pub invariant-loop-index : goal.invariant-loop-index
invariant-loop-index g l = record {
  rows : keyed l.found.items ++ filter (λ row. is_selected (option_copied l.query) row.1) (by_id (drop l.index l.sheet.rows))
      ≡ keyed l.fn.found.items ++ filter (λ row. is_selected (option_copied l.query) row.1) (by_id l.sheet.rows);
  members : All (λ row. row.member ≡ member_of l.target (key_of row)) l.fn.found.items → All (λ row. row.member ≡ member_of l.target (key_of row)) l.found.items;
  cost : l.steps ≤ l.initial.steps + l.index;
}
