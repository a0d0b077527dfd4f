-- A mirror of all items that is served to its end, so that the laws of this crate are about some mirror.
use Rattle.std.specs.Prelude.{ℕ, List, [], Option, Some}
use Rattle.item_model.specs.declared.changes.Entry.{Entry}
use Rattle.item_model.specs.declared.query.Query.{Query}
use Rattle.item_model.specs.declared.request.Meta.{Meta}
use Rattle.item_model.specs.declared.request.Target.TheVariants.{Items}
use Rattle.share_asks.specs.declared.ask.Role.TheVariants.{Listen}
use Rattle.share_replies.specs.Settings.{Settings}
use Rattle.mirror_core.specs.declared.mirror.Applied.{Applied}
use Rattle.mirror_core.specs.Mirrored.{Mirrored}
use Rattle.mirror_client.specs.Points.{nothing_read, place}
use Rattle.mirror_client.specs.Runs.{Followed}
use Rattle.share_history.specs.Whole.{IsWhole}
use Rattle.share_meetings.specs.Links.{AnsweredAll, ServedLink}

-- A mirror of all items at revision 0, without rows.
abbrev pub new_mirror : Option Query → Meta → Mirrored
new_mirror query meta = record { target = Items; query = query; meta = meta; held = record { revision = 0; rows = [] } }

-- The mirror followed for one round, over a connection of players that was served.
pub record IsServedOnce (host : List ℕ) (m : Mirrored) (s : Settings) (by : ℕ) : Type 0 where
  pub h : List Entry
  pub input : List ℕ
  pub output : List ℕ
  pub applied : List Applied
  pub now : Mirrored
  pub whole : IsWhole h
  pub served : ServedLink s by 65536 Listen h input output
  pub answered : AnsweredAll s by 65536 Listen h input output
  pub followed : Followed host m 1 (place (Some []) (Some output) nothing_read) (Some input) applied now
