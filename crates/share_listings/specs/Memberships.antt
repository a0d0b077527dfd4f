-- Which items the members of a target are.
use Rattle.std.specs.Prelude.{◌≡◌, ◌≤◌, ◌==◌, ℕ, List, true, false, length, All, Option, Some}
use Rattle.item_model.specs.declared.changes.Edit.{Edit}
use Rattle.item_model.specs.declared.request.Target.{Target}
use Rattle.item_model.specs.declared.request.Target.TheVariants.{Container}
use Rattle.share_history.specs.Histories.{edits}
use Rattle.share_history.specs.LastSaid.{item_at, list_at}
use Rattle.share_history.specs.Numbers.{base_list}
use Rattle.share_history.specs.Rows.{in_target}
use Rattle.item_store.specs.Stands as items_stand
use Rattle.item_store.specs.Store.{Store}
use Rattle.playlist_store.specs.Words.{standing}
use Rattle.playlist_store.specs.Stands as lists_stand
use Rattle.playlist_store.specs.Store as lists_kept
use Rattle.playlist_store.specs.declared.head.Member.{Member}
use Rattle.listing_plan.specs.Limits.{rows_limit}
use Rattle.share_listings.specs.Answers.{is_library}
use Rattle.share_listings.specs.declared.membership.Membership.{Membership}
use Rattle.share_listings.specs.declared.membership.Membership.TheVariants.{Library, Members}

-- a store of lists has the members of the target
pub record TellsMembers (keep : ℕ) (bs : List (List Edit)) (target : Target) (lists : lists_kept.Store) (list : ℕ) : Type 0 where
  pub container : target ≡ Container list
  pub beside : (list == base_list) ≡ false
  pub same : lists.keep ≡ keep
  pub stands : lists_stand.StandsFor bs lists

-- a listing of the target has these members
abbrev pub IsMembership : ℕ → List (List Edit) → Target → Membership → Type 0
IsMembership keep bs target Library = is_library target ≡ true
IsMembership keep bs target (Members lists list) = TellsMembers keep bs target lists.now list

-- the stores represent these batches, and the membership is that of the target
pub record Tells (bs : List (List Edit)) (items : Store) (target : Target) (membership : Membership) : Type 0 where
  pub stands : items_stand.StandsFor bs items
  pub members : IsMembership items.keep bs target membership

-- the same for batches with no more edits than a listing may have rows
pub record TellsFew (items : Store) (target : Target) (membership : Membership) : Type 0 where
  pub bs : List (List Edit)
  pub tells : Tells bs items target membership
  pub few : length (edits bs) ≤ rows_limit

-- container 1 is not a list: its members are all items
abbrev pub IsBeside : Membership → Type 0
IsBeside Library = Unit {0}
IsBeside (Members lists list) = (list == base_list) ≡ false

-- the item that the key of a member has
abbrev pub item_under : List Edit → Membership → ℕ → Option ℕ
item_under es Library key = Some key
item_under es (Members lists list) key = standing (list_at es list) es list key

-- each member's item is that of the target's row under its key
abbrev pub AreMembersOf : List Edit → Target → List Member → Type 0
AreMembersOf es target members = All (λ member. in_target es target member.key ≡ item_at es member.item) members
