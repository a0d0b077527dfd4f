-- A reply that adds no entry, one that adds an entry, and the bounds of the last-answered length in a reply.
use Rattle.std.specs.Prelude.{◌≡◌, ◌≤◌, ◌++◌, ◌∷◌, [], ℕ, List, true, false, length}
use Rattle.item_model.specs.declared.changes.Entry.{Entry}
use Rattle.share_history.specs.Marks.{marks_after, until_login}
use Rattle.share_history.specs.Sessions.{is_live}
use Rattle.share_replies.specs.Replies as replies
use Rattle.share_replies.specs.Replies.{Body}
use Rattle.share_replies.specs.Answers.{Shared, mark_of}
use Rattle.share_core.specs.declared.answer.Answer.{Answer}
use Rattle.share_core.specs.declared.answer.Answer.TheVariants as answer
use Rattle.share_core.specs.declared.answer.Reply.{Reply}
use Rattle.share_core.specs.Told.{IsReply}

-- A status and a body as the response to session `id`.
abbrev pub reply_of : ℕ × Body → ℕ → replies.Reply
reply_of content id = record { status = content.0; body = content.1; session = id }

-- The reply is given at the end of the history. It sets the last-answered length of its session.
pub record IsRead (told : ℕ × Body) (id : ℕ) (old new : Shared) (r : Reply) : Type 0 where
  pub reply : IsReply (reply_of told id) (length old.history) (mark_of old.marks id) false r
  pub share : new ≡ record { settings = old.settings; history = old.history; marks = marks_after old.history id old.marks }

-- The reply is given after the entry that it added.
pub record HasGrown (told : ℕ × Body) (id : ℕ) (e : Entry) (old new : Shared) (r : Reply) : Type 0 where
  pub reply : IsReply (reply_of told id) (length (old.history ++ e ∷ [])) (mark_of old.marks id) true r
  pub share : new ≡ record { settings = old.settings; history = old.history ++ e ∷ []; marks = marks_after (old.history ++ e ∷ []) id old.marks }

-- The last-answered length of a live session is at or after its login, and never exceeds the history length.
pub record IsBetween (h : List Entry) (r : Reply) : Type 0 where
  pub until : r.seen ≤ length h
  pub since : is_live h r.session ≡ true → length (until_login r.session h) ≤ r.seen

abbrev pub IsMarked : List Entry → Answer → Type 0
IsMarked h (answer.Reply reply) = IsBetween h reply
IsMarked h (answer.Wait revision point) = Unit {0}
