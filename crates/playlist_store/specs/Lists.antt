-- The lists of a store: under each id the version since each put or drop, newest first, and what is read of a
-- version.
use Rattle.std.specs.Prelude.{ℕ, List, ◌∷◌, Bool, false, Option, None, Some, is_some, nat_le, if◌then◌else◌}
use Rattle.std.specs.declared.cmp.Ordering.{Ordering}
use Rattle.std.specs.Ordering.{ordering_then, nat_cmp}
use Rattle.std.specs.Option.{option_map, option_map_or, option_and_then}
use Rattle.std.specs.List.{find, list_any}
use Rattle.std.specs.BTreeMap.{is_at}
use Rattle.item_model.specs.declared.changes.Edit.{Edit}
use Rattle.key_versions.specs.Held.{at, value_at}
use Rattle.share_history.specs.Named.{names_item, names_member}
use Rattle.playlist_store.specs.declared.head.ListHead.{ListHead}
use Rattle.playlist_store.specs.declared.kept.ListVersion.{ListVersion}
use Rattle.playlist_store.specs.declared.kept.ListHistory.{ListHistory}

abbrev pub Lists : Type 0
Lists = List (ℕ × ListHistory)

-- the newest version of a list
abbrev pub top : Lists → ℕ → Option ListVersion
top lists c = option_map (λ list. list.now) (at c lists)

-- the version of a list at a revision
abbrev pub list_in : Lists → ℕ → ℕ → Option ListVersion
list_in lists c v = option_and_then (λ list. find (λ kept. nat_le kept.since v) (list.now ∷ list.older.items)) (at c lists)

-- its head; `None` if it was dropped
abbrev pub head_in : Option ListVersion → Option ListHead
head_in kept = option_and_then (λ k. k.head) kept

-- the revision of the put or drop
abbrev pub since_of : Option ListVersion → ℕ
since_of kept = option_map_or (λ k. k.since) kept 0

-- the item under a key at a revision
abbrev pub member_in : Option ListVersion → ℕ → ℕ → Option ℕ
member_in None key base = None
member_in (Some k) key base = value_at k.members key base

-- pairs are ordered by item, then by member
abbrev pub near_cmp : ℕ × ℕ → ℕ × ℕ → Ordering
near_cmp a b = ordering_then (nat_cmp a.0 b.0) (nat_cmp a.1 b.1)

-- whether the index has the member under the item
abbrev pub near_in : Option ListVersion → ℕ → ℕ → Bool
near_in None item key = false
near_in (Some k) item key = list_any (is_at (near_cmp (item, key))) k.near.keys

abbrev pub has_rule : Option ListHead → Bool
has_rule None = false
has_rule (Some head) = is_some head.rule

-- whether an edit may change the item under a key: in a playlist a put or drop of the member, in a smart playlist one
-- of the item
abbrev pub names_key : Option ListHead → ℕ → ℕ → Edit → Bool
names_key None c key edit = false
names_key (Some head) c key edit = if is_some head.rule then names_item key edit else names_member c key edit
