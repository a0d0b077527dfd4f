use Rattle.std.proofs.Common.{◌≡◌, ◌≤◌, ◌+◌, List, All, take, option_copied}
use Rattle.item_model.specs.declared.changes.Edit.{Edit}
use Rattle.listing_plan.specs.Plans.{key_of, keyed}
use Rattle.share_history.specs.Histories.{edits}
use Rattle.share_history.specs.Keyed.{pairs_at}
use Rattle.share_history.specs.Listings.{member_of}
use Rattle.share_history.specs.Rows.{row_at}
use Rattle.share_listings.specs.Memberships.{Tells}
use Rattle.share_listings.proofs.asked.rows_at.Given as goal

-- the rows of the keys so far that are asked for, with a tick for each key
abbrev pub invariant-loop-key : goal.invariant-loop-key
invariant-loop-key g l = record {
  rows : (bs : List (List Edit)) → Tells bs l.items l.target l.membership
      → keyed l.rows.items ≡ pairs_at (row_at (edits bs) l.target (option_copied l.query)) (take l.key-index l.keys);
  members : All (λ row. row.member ≡ member_of l.target (key_of row)) l.rows.items;
  cost : l.steps ≤ l.initial.steps + l.key-index;
}
