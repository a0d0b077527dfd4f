-- The reply to a request in a share's answer.
use Rattle.std.proofs.Common.{◌≡◌, ℕ, List, Option, Some, None, refl, sym, ap, ◌∙◌, subst}
use Rattle.dmap_tags.specs.Spelling.{spelling}
use Rattle.dmap_tags.specs.Tree.{Tree}
use Rattle.http_front.specs.ReplyHeads.{HasReason}
use Rattle.listing_plan.specs.declared.plan.Plan.{Plan}
use Rattle.listing_plan.specs.declared.plan.Plan.TheVariants as plan
use Rattle.listing_plan.specs.Plans.{IsWritable, plan_bytes}
use Rattle.reply_bytes.specs.ReplyBytes.{body_bytes, form_of, with_head}
use Rattle.reply_bytes.proofs.ReasonFacts.{replies_have_reasons}
use Rattle.share_asks.specs.declared.ask.Want.{Want}
use Rattle.share_asks.specs.declared.form.BodyForm.{BodyForm}
use Rattle.share_core.specs.Contents.{IsBody, IsContent, tree_of}
use Rattle.share_core.specs.Told.{IsAnswer, IsTold}
use Rattle.share_core.specs.declared.answer.Answer.{Answer}
use Rattle.share_core.specs.declared.answer.Answer.TheVariants as answer
use Rattle.share_core.specs.declared.answer.ReplyContent.{ReplyContent}
use Rattle.share_history.specs.Bodies.{body_tree}
use Rattle.share_replies.specs.Answers.{Shared, told, left}
use Rattle.share_replies.specs.Replies.{Body, Nothing, Allowed, Line, Tagged, Reply, Replies, Holds, answer_to}
use Rattle.share_replies.specs.Replies as replies
use Rattle.share_replay.specs.Asked.{IsContentTo, Spells}

-- a body's plan writes it
record Writes (body : Body) (form : BodyForm) (written : Plan) : Type 0 where
  form_is : form ≡ form_of body
  bytes : plan_bytes written ≡ body_bytes body
  writable : IsWritable written

tag_bytes : (tag : Tree) (written : Plan) → tree_of written ≡ Some tag → plan_bytes written ≡ spelling tag
tag_bytes tag plan.Empty is = absurd (cc)
tag_bytes tag (plan.Plain bytes) is = absurd (cc)
tag_bytes tag (plan.Tagged t) is = let same : t ≡ tag = cc in ap spelling same
tag_bytes tag (plan.Rows rows) is = let same : body_tree rows.target rows.listing ≡ tag = cc in ap spelling same

writes : (body : Body) (form : BodyForm) (written : Plan) → IsBody body form written → Writes body form written
writes Nothing form written is = record {
  form_is = is.0;
  bytes = ap plan_bytes is.1;
  writable = subst IsWritable (sym is.1) refl;
}
writes (Allowed verb) form written is = record {
  form_is = is.0;
  bytes = ap plan_bytes is.1;
  writable = subst IsWritable (sym is.1) refl;
}
writes (Line text) form written is = record {
  form_is = is.0;
  bytes = ap plan_bytes is.1;
  writable = subst IsWritable (sym is.1) refl;
}
writes (Tagged tag) form written is = record { form_is = is.0; bytes = tag_bytes tag written is.1.0; writable = is.1.1 }

spells : (reply : Reply) (content : ReplyContent) → HasReason reply.status → IsContent (reply.status, reply.body) content → Spells content reply
spells reply content reason is = let body = writes reply.body content.form content.plan is.1 in record {
  reason = subst HasReason (sym is.0) reason;
  writable = body.writable;
  bytes = λ last.
      ap (λ (n : ℕ). with_head n content.form (plan_bytes content.plan) last) is.0
      ∙ ap (λ (f : BodyForm). with_head reply.status f (plan_bytes content.plan) last) body.form_is
      ∙ ap (λ (b : List ℕ). with_head reply.status (form_of reply.body) b last) body.bytes;
}

-- the reply in an answer
abbrev pub content_in : Answer → Option ReplyContent
content_in (answer.Reply reply) = Some reply.content
content_in (answer.Wait now point) = None

content_by : (old new : Shared) (number : ℕ) (want : Want) (x : replies.Answer) (a : Answer) → answer_to old.settings old.history want ≡ x
    → IsTold (told old number want x) a → new ≡ left old number want x → IsContentTo old new number want (content_in a)
content_by old new number want (Replies reply) (answer.Reply r) is tells share = record {
  reply = reply;
  answer = is;
  spells = spells reply r.content (replies_have_reasons old.settings old.history want reply is) tells.content;
  settings = ap (λ (s : Shared). s.settings) share;
  history = ap (λ (s : Shared). s.history) share;
}
content_by old new number want (Replies reply) (answer.Wait now point) is tells share = absurd tells
content_by old new number want Holds (answer.Reply r) is tells share = absurd tells
content_by old new number want Holds (answer.Wait now point) is tells share = record { answer = is; stays = share }

pub says : (old new : Shared) (number : ℕ) (want : Want) (a : Answer) → IsAnswer old new number want a → IsContentTo old new number want (content_in a)
says old new number want a is = content_by old new number want (answer_to old.settings old.history want) a refl is.told is.share
