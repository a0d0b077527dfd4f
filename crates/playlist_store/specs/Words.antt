-- What contracts say of a list: its head, the item under each of its keys, and a member as a pair.
use Rattle.std.specs.Prelude.{ℕ, List, Option, Some, None, if◌then◌else◌}
use Rattle.item_model.specs.declared.item.Row.{Row}
use Rattle.item_model.specs.declared.query.Query.{Query}
use Rattle.item_model.specs.declared.changes.Edit.{Edit}
use Rattle.share_history.specs.LastSaid.{Playlist, Plain, Ruled, item_at, member_at}
use Rattle.share_history.specs.Rows.{is_selected}
use Rattle.playlist_store.specs.declared.head.ListHead.{ListHead}
use Rattle.playlist_store.specs.declared.head.Member.{Member}

-- the name of a list, and its rule if it has one
abbrev pub head_of : Playlist → ListHead
head_of (Plain name) = record { name = name; rule = None }
head_of (Ruled name rule) = record { name = name; rule = Some rule }

-- the id, if the rule matches the item
abbrev pub ruled : Query → ℕ → Option Row → Option ℕ
ruled rule id None = None
ruled rule id (Some row) = if is_selected (Some rule) row then Some id else None

-- the id of the item under a key of a list: for a playlist the member's, whether the library has it or not; for a
-- smart playlist that of a matching item
abbrev pub standing : Option Playlist → List Edit → ℕ → ℕ → Option ℕ
standing None es c key = None
standing (Some (Plain name)) es c key = member_at es c key
standing (Some (Ruled name rule)) es c key = ruled rule key (item_at es key)

abbrev pub pair_of : Member → ℕ × ℕ
pair_of member = (member.key, member.item)
