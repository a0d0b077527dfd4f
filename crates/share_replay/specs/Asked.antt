-- The share's response to a request, and the share after it.
use Rattle.std.specs.Prelude.{◌≡◌, ℕ, Bool, Option, Some, None}
use Rattle.http_front.specs.ReplyHeads.{HasReason}
use Rattle.listing_plan.specs.Plans.{IsWritable, plan_bytes}
use Rattle.reply_bytes.specs.ReplyBytes.{reply_bytes, with_head}
use Rattle.share_asks.specs.declared.ask.Want.{Want}
use Rattle.share_core.specs.declared.answer.ReplyContent.{ReplyContent}
use Rattle.share_replies.specs.Added.{after}
use Rattle.share_replies.specs.Answers.{Shared}
use Rattle.share_replies.specs.Replies.{Reply, Replies, Holds, answer_to}

-- The response can be written, and its bytes are those of the reply.
pub record Spells (content : ReplyContent) (reply : Reply) : Type 0 where
  pub reason : HasReason content.status
  pub writable : IsWritable content.plan
  pub bytes : (last : Bool) → with_head content.status content.form (plan_bytes content.plan) last ≡ reply_bytes reply last

pub record IsReplied (old new : Shared) (number : ℕ) (want : Want) (content : ReplyContent) : Type 0 where
  pub reply : Reply
  pub answer : answer_to old.settings old.history want ≡ Replies reply
  pub spells : Spells content reply
  pub settings : new.settings ≡ old.settings
  pub history : new.history ≡ after old.history number want

pub record IsHeld (old new : Shared) (want : Want) : Type 0 where
  pub answer : answer_to old.settings old.history want ≡ Holds
  pub stays : new ≡ old

abbrev pub IsContentTo : Shared → Shared → ℕ → Want → Option ReplyContent → Type 0
IsContentTo old new number want None = IsHeld old new want
IsContentTo old new number want (Some content) = IsReplied old new number want content
