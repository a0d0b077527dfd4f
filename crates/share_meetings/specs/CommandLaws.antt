-- When a run of `follow` or `edit` whose connection is a share's succeeds.
use Rattle.std.specs.Prelude.{◌≡◌, ◌⊎◌, ◌≤◌, ℕ, List, ◌∷◌, Bool, true, false, length, Option, Some, Ok}
use Rattle.item_model.specs.declared.changes.Edit.{Edit}
use Rattle.item_model.specs.declared.changes.Entry.{Entry}
use Rattle.item_model.specs.declared.request.Target.{Target}
use Rattle.share_asks.specs.declared.ask.Want.{Want}
use Rattle.share_asks.specs.declared.ask.Want.TheVariants as want
use Rattle.share_history.specs.Whole.{IsWhole}
use Rattle.share_replies.specs.Settings.{Settings}
use Rattle.share_replies.specs.Replies.{Reply, Replies, answer_to}
use Rattle.reply_bytes.specs.ReplyBytes.{reply_bytes}
use Rattle.command_core.specs.ReadRecords.{records_limit}
use Rattle.command_core.specs.Seen.{Run}
use Rattle.mirror_core.specs.Mirrored.{Mirrored}
use Rattle.link_commands.specs.Decided.{IsOrMemory}
use Rattle.link_commands.specs.EditShare.{edit_meaning}
use Rattle.link_commands.specs.FollowShare.{follow_meaning}
use Rattle.link_commands.specs.Looks.{AsksMirror}
use Rattle.link_commands.specs.Meanings.{LinkEnds}
use Rattle.link_commands.specs.Promises.{IsFaultless}
use Rattle.share_meetings.specs.ServedRuns.{ServesRun}

-- ---- follow

-- the texts select this mirror, and the bytes to come are a share's responses to it, for `rounds` rounds
pub record ServesMirror (s : Settings) (h : List Entry) (rounds : ℕ) (query meta : Option (List ℕ)) (target : Target) (told : Run) : Type 0 where
  pub whole : IsWhole h
  pub bytes : List ℕ
  pub next : told.before.around.net.next_input ≡ Some bytes
  pub m : Mirrored
  pub asks : AsksMirror query meta target m
  pub run : ServesRun s m.target m.query m.meta h bytes
  pub rounds_are : length (run.first ∷ run.others) ≡ rounds

-- Then the run succeeds, unless an error outside was counted or an allocation failed.
abbrev pub FollowGoesOn : Type 0
FollowGoesOn =
    (host : List ℕ) (rounds : ℕ) (query meta : Option (List ℕ)) (target : Target) (told : Run) (status : ℕ) (s : Settings) (h : List Entry)
    → LinkEnds (follow_meaning host rounds query meta target) told status → ServesMirror s h rounds query meta target told → IsFaultless told → IsOrMemory 0 status

-- ---- edit

-- the stop, or an edit with a batch, which may be empty
abbrev pub IsPushWant : (stop : Bool) → Want → Type 0
IsPushWant true w = w ≡ want.Stop
IsPushWant false w = (batch : List Edit) × (w ≡ want.Edit (Ok batch))

abbrev pub IsPushSuccess : (stop : Bool) → ℕ → Type 0
IsPushSuccess true status = status ≡ 204
IsPushSuccess false status = (status ≡ 200) ⊎ (status ≡ 204)

-- the bytes to come are one success of a share, and what is to be sent is within its limit
pub record ServesPush (s : Settings) (h : List Entry) (stop : Bool) (told : Run) : Type 0 where
  pub few : IsWhole h
  pub want : Want
  pub want_is : IsPushWant stop want
  pub reply : Reply
  pub last : Bool
  pub answers : answer_to s h want ≡ Replies reply
  pub succeeds : IsPushSuccess stop reply.status
  pub next : told.before.around.net.next_input ≡ Some (reply_bytes reply last)
  pub input : List ℕ
  pub input_is : stop ≡ false → told.before.input.left ≡ Some input
  pub within : stop ≡ false → length input ≤ records_limit

-- Then the run succeeds, unless an error outside was counted or an allocation failed.
abbrev pub EditGoesOn : Type 0
EditGoesOn =
    (host : List ℕ) (stop : Bool) (told : Run) (status : ℕ) (s : Settings) (h : List Entry)
    → LinkEnds (edit_meaning host stop) told status → ServesPush s h stop told → IsFaultless told → IsOrMemory 0 status
