-- What a share replies can be written.
use Rattle.std.proofs.Common.{ℕ, refl, sym, subst}
use Rattle.listing_plan.specs.declared.plan.Plan.{Plan}
use Rattle.listing_plan.specs.Plans.{IsWritable}
use Rattle.share_asks.specs.declared.ask.Want.{Want}
use Rattle.share_asks.specs.declared.form.BodyForm.{BodyForm}
use Rattle.share_core.specs.Contents.{IsBody}
use Rattle.share_core.specs.Told.{IsAnswer, IsTold}
use Rattle.share_core.specs.declared.answer.Answer.TheVariants as answer
use Rattle.share_core.specs.declared.answer.Reply.{Reply}
use Rattle.share_replies.specs.Answers.{Shared, Told, Replied, Waiting, told_by}
use Rattle.share_replies.specs.Replies.{Body, Nothing, Allowed, Line, Tagged}

body_is_writable : (body : Body) (form : BodyForm) (plan : Plan) → IsBody body form plan → IsWritable plan
body_is_writable Nothing form plan is = subst IsWritable (sym is.1) refl
body_is_writable (Allowed verb) form plan is = subst IsWritable (sym is.1) refl
body_is_writable (Line text) form plan is = subst IsWritable (sym is.1) refl
body_is_writable (Tagged tag) form plan is = is.1.1

told_is_writable : (told : Told) (reply : Reply) → IsTold told (answer.Reply reply) → IsWritable reply.content.plan
told_is_writable (Replied told at mark adds) reply is = body_is_writable told.body reply.content.form reply.content.plan is.content.1
told_is_writable (Waiting revision at) reply is = absurd is

pub reply_is_writable : (old new : Shared) (by : ℕ) (want : Want) (reply : Reply) → IsAnswer old new by want (answer.Reply reply) → IsWritable reply.content.plan
reply_is_writable old new by want reply is = told_is_writable (told_by old by want) reply is.told
