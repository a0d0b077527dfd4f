use Rattle.std.proofs.Common.{◌≡◌, ◌++◌, All, drop}
use Rattle.listing_plan.specs.Plans.{key_of, keyed}
use Rattle.row_sheets.specs.Sheets.{by_id}
use Rattle.share_history.specs.Listings.{member_of}
use Rattle.share_listings.proofs.sheets.push_within.Given as goal

abbrev pub invariant-loop-row : goal.invariant-loop-row
invariant-loop-row l = record {
  rows : keyed l.found.items ++ by_id (drop l.row-index l.part) ≡ keyed l.fn.found.items ++ by_id l.part;
  members : All (λ row. row.member ≡ member_of l.target (key_of row)) l.fn.found.items → All (λ row. row.member ≡ member_of l.target (key_of row)) l.found.items;
}
