-- When an answer of the program is the response that a share makes, and the share is the one that the response
-- leaves.
use Rattle.std.specs.Prelude.{◌≡◌, ℕ, Bool}
use Rattle.share_asks.specs.declared.ask.Want.{Want}
use Rattle.share_replies.specs.Replies as replies
use Rattle.share_replies.specs.Answers.{Shared, Told, Replied, Waiting, told_by, share_after}
use Rattle.share_core.specs.declared.answer.Answer.{Answer}
use Rattle.share_core.specs.declared.answer.Answer.TheVariants as answer
use Rattle.share_core.specs.declared.answer.Reply.{Reply}
use Rattle.share_core.specs.Contents.{IsContent}

pub record IsReply (told : replies.Reply) (at mark : ℕ) (adds : Bool) (reply : Reply) : Type 0 where
  pub content : IsContent (told.status, told.body) reply.content
  pub session : reply.session ≡ told.session
  pub point : reply.point ≡ at
  pub seen : reply.seen ≡ mark
  pub added : reply.added ≡ adds

abbrev pub IsTold : Told → Answer → Type 0
IsTold (Replied told at mark adds) (answer.Reply reply) = IsReply told at mark adds reply
IsTold (Replied told at mark adds) (answer.Wait now point) = ⊥
IsTold (Waiting revision at) (answer.Reply reply) = ⊥
IsTold (Waiting revision at) (answer.Wait now point) = (now ≡ revision) × (point ≡ at)

-- The answer to the operation `want` of handle `by`.
pub record IsAnswer (old new : Shared) (by : ℕ) (want : Want) (answer : Answer) : Type 0 where
  pub told : IsTold (told_by old by want) answer
  pub share : new ≡ share_after old by want
