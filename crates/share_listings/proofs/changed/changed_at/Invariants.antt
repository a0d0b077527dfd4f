use Rattle.std.proofs.Common.{◌≡◌, ◌≤◌, ◌+◌, ◌*◌, List, All, take, filter}
use Rattle.item_model.specs.declared.changes.Edit.{Edit}
use Rattle.listing_plan.specs.Plans.{key_of, keyed}
use Rattle.share_history.specs.Keyed.{pairs_at}
use Rattle.share_history.specs.Listings.{member_of}
use Rattle.share_listings.specs.Changes.{TellsSince, listed_at, is_deleted}
use Rattle.share_listings.proofs.changed.changed_at.Given as goal

-- the changes of the keys so far, with two ticks for each
abbrev pub invariant-loop-key : goal.invariant-loop-key
invariant-loop-key g l = record {
  rows : (bs : List (List Edit)) → TellsSince bs l.items l.target l.membership l.look.base
      → keyed l.rows.items ≡ pairs_at (listed_at bs l.target l.look) (take l.key-index l.keys);
  gone : (bs : List (List Edit)) → TellsSince bs l.items l.target l.membership l.look.base
      → l.gone.items ≡ filter (is_deleted bs l.target l.look) (take l.key-index l.keys);
  members : All (λ row. row.member ≡ member_of l.target (key_of row)) l.rows.items;
  cost : l.steps ≤ l.initial.steps + 2 * l.key-index;
}
