-- A share as a value, and what one call on it returns and leaves. A reply comes with the number of entries after it
-- (`point`) and the last-answered length of its session (`seen`), which it then sets to `point`. A pending update
-- changes nothing.
use Rattle.std.specs.Prelude.{ℕ, List, Bool, length, is_some, unwrap_or}
use Rattle.item_model.specs.declared.changes.Entry.{Entry}
use Rattle.share_history.specs.Histories.{batches, revision}
use Rattle.share_history.specs.Keyed.{at}
use Rattle.share_history.specs.Marks.{marks_after}
use Rattle.share_asks.specs.declared.ask.Want.{Want}
use Rattle.share_replies.specs.Settings.{Settings}
use Rattle.share_replies.specs.Replies.{Reply, Answer, Replies, Holds, answer_to}
use Rattle.share_replies.specs.Added.{adds, after}

pub record Shared : Type 0 where
  pub settings : Settings
  pub history : List Entry
  -- for each live session the history length of its last answer, ascending by session
  pub marks : List (ℕ × ℕ)

pub data Told : Type 0 where
  Replied : (reply : Reply) (point seen : ℕ) (added : Bool) → Told
  Waiting : (revision point : ℕ) → Told

-- the last-answered length of a session, or 0
abbrev pub mark_of : List (ℕ × ℕ) → ℕ → ℕ
mark_of marks session = unwrap_or (at session marks) 0

abbrev pub told : Shared → ℕ → Want → Answer → Told
told share by want (Replies reply) =
    Replied reply (length (after share.history by want)) (mark_of share.marks reply.session) (is_some (adds share.history by want))
told share by want Holds = Waiting (revision (batches share.history)) (length share.history)

abbrev pub told_by : Shared → ℕ → Want → Told
told_by share by want = told share by want (answer_to share.settings share.history want)

abbrev pub left : Shared → ℕ → Want → Answer → Shared
left share by want (Replies reply) = let h = after share.history by want in
    record { settings = share.settings; history = h; marks = marks_after h reply.session share.marks }
left share by want Holds = share

abbrev pub share_after : Shared → ℕ → Want → Shared
share_after share by want = left share by want (answer_to share.settings share.history want)
