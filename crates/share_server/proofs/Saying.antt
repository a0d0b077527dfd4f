-- What is said writes the bytes of the reply that it is.
use Rattle.std.proofs.Common.{◌≡◌, ℕ, List, Bool, Option, Some, None, refl, sym, ap, ◌∙◌, subst}
use Rattle.dmap_tags.specs.Tree.{Tree}
use Rattle.dmap_tags.specs.Spelling.{spelling}
use Rattle.share_asks.specs.declared.form.BodyForm.{BodyForm}
use Rattle.listing_plan.specs.declared.plan.Plan.{Plan}
use Rattle.listing_plan.specs.declared.plan.Plan.TheVariants as plan
use Rattle.listing_plan.specs.Plans.{plan_bytes, IsWritable}
use Rattle.reply_bytes.specs.ReplyBytes.{form_of, body_bytes, with_head, reply_bytes}
use Rattle.share_replies.specs.Replies.{Body, Nothing, Allowed, Line, Tagged, Reply}
use Rattle.share_core.specs.declared.answer.ReplyContent.{ReplyContent}
use Rattle.share_core.specs.Contents.{tree_of, IsBody, IsContent}

-- the bytes of a tag that is there
abbrev spelled : Option Tree → List ℕ → List ℕ
spelled None bytes = bytes
spelled (Some tag) bytes = spelling tag

spells : (written : Plan) → plan_bytes written ≡ spelled (tree_of written) (plan_bytes written)
spells plan.Empty = refl
spells (plan.Plain bytes) = refl
spells (plan.Tagged tag) = refl
spells (plan.Rows rows) = refl

-- a form and a plan that are a body
pub record Writes (body : Body) (form : BodyForm) (written : Plan) : Type 0 where
  pub form_is : form ≡ form_of body
  pub bytes : plan_bytes written ≡ body_bytes body
  pub writable : IsWritable written

pub writes : (body : Body) (form : BodyForm) (written : Plan) → IsBody body form written → Writes body form written
writes Nothing form written is = record { form_is = is.0; bytes = ap plan_bytes is.1; writable = subst IsWritable (sym is.1) refl }
writes (Allowed verb) form written is = record { form_is = is.0; bytes = ap plan_bytes is.1; writable = subst IsWritable (sym is.1) refl }
writes (Line text) form written is = record { form_is = is.0; bytes = ap plan_bytes is.1; writable = subst IsWritable (sym is.1) refl }
writes (Tagged tag) form written is =
    record { form_is = is.0; bytes = spells written ∙ ap (λ tree. spelled tree (plan_bytes written)) is.1.0; writable = is.1.1 }

pub said_bytes : (reply : Reply) (said : ReplyContent) (last : Bool) → IsContent (reply.status, reply.body) said
    → with_head said.status said.form (plan_bytes said.plan) last ≡ reply_bytes reply last
said_bytes reply said last is =
    let w : Writes reply.body said.form said.plan = writes reply.body said.form said.plan is.1 in
    λ i. with_head (is.0 i) (w.form_is i) (w.bytes i) last
