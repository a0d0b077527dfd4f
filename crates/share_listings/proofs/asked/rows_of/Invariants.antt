use Rattle.std.proofs.Common.{◌≡◌, ◌≤◌, ◌+◌, List, All, map, take, option_copied}
use Rattle.item_model.specs.declared.changes.Edit.{Edit}
use Rattle.item_store.specs.Stands.{StandsFor}
use Rattle.listing_plan.specs.Plans.{key_of, keyed}
use Rattle.share_history.specs.Histories.{edits}
use Rattle.share_history.specs.Keyed.{pairs_at}
use Rattle.share_history.specs.Listings.{member_of}
use Rattle.share_history.specs.Rows.{row_at}
use Rattle.share_listings.specs.Memberships.{AreMembersOf}
use Rattle.share_listings.proofs.asked.rows_of.Given as goal

-- the rows of the members so far that are asked for, with a tick for each
abbrev pub invariant-loop-member : goal.invariant-loop-member
invariant-loop-member g l = record {
  rows : (bs : List (List Edit)) → StandsFor bs l.items → AreMembersOf (edits bs) l.target l.members
      → keyed l.rows.items ≡ pairs_at (row_at (edits bs) l.target (option_copied l.query)) (map (λ member. member.key) (take l.member-index l.members));
  members : All (λ row. row.member ≡ member_of l.target (key_of row)) l.rows.items;
  cost : l.steps ≤ l.initial.steps + l.member-index;
}
