-- The delta window of a listing, and the keys that edits after a base touch.
use Rattle.std.specs.Prelude.{ℕ, ◌+◌, List, ◌==◌, Bool, true, false, ◌&&◌, ◌||◌, not, nat_le, Option, Some, None, filter, if◌then◌else◌}
use Rattle.std.specs.List.{list_any}
use Rattle.item_model.specs.declared.changes.Edit.{Edit}
use Rattle.item_model.specs.declared.request.Target.{Target}
use Rattle.item_model.specs.declared.request.Target.TheVariants.{Items, Container}
use Rattle.share_history.specs.Numbers.{first_revision, base_list}
use Rattle.share_history.specs.Keyed.{ascending}
use Rattle.share_history.specs.Histories.{revision, edits, later}
use Rattle.share_history.specs.LastSaid.{Playlist, Plain, Ruled, list_at, member_at}
use Rattle.share_history.specs.Named.{names_item, names_list, names_member, named_keys}

-- none of the edits puts or drops the target as a list
abbrev pub is_left : Target → List Edit → Bool
is_left Items es = true
is_left (Container c) es = (c == base_list) || not (list_any (names_list c) es)

-- whether a base is in the delta window: from the first revision to the present one, at most `keep` revisions old,
-- and with no later put or drop of its list
abbrev pub is_kept : ℕ → List (List Edit) → Target → ℕ → Bool
is_kept keep bs target base =
    nat_le first_revision base && (nat_le base (revision bs) && (nat_le (revision bs) (base + keep) && is_left target (later bs base)))

-- some edit names the item of a member
abbrev pub names_its_item : Option ℕ → List Edit → Bool
names_its_item None es = false
names_its_item (Some item) es = list_any (names_item item) es

-- whether `es` touch a key of a list: in a playlist they name the member or its item, in a smart playlist the item.
-- `all` are the edits up to the present, by which members have their items
abbrev pub touches_in : Option Playlist → List Edit → ℕ → List Edit → ℕ → Bool
touches_in None all c es key = false
touches_in (Some (Plain name)) all c es key = list_any (names_member c key) es || names_its_item (member_at all c key) es
touches_in (Some (Ruled name rule)) all c es key = list_any (names_item key) es

abbrev pub touches : List Edit → Target → List Edit → ℕ → Bool
touches all Items es key = list_any (names_item key) es
touches all (Container c) es key =
    if c == base_list then list_any (names_item key) es else touches_in (list_at all c) all c es key

-- the keys touched after a base, ascending
abbrev pub touched : List (List Edit) → Target → ℕ → List ℕ
touched bs target base = filter (touches (edits bs) target (later bs base)) (ascending (named_keys (edits bs)))
