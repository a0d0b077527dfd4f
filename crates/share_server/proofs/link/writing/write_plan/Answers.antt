use Rattle.std.proofs.Common.{◌≡◌, ℕ, List, Option, Some, is_some, sym, ap, subst}
use Rattle.listing_plan.specs.Plans.{plan_bytes}
use Rattle.reply_bytes.specs.ReplyBytes.{with_head}
use Rattle.reply_bytes.specs.declared.writing.ReplyError.TheVariants.{Memory}
use Rattle.share_server.specs.Written.{WasWritten, CountsMaybe}
use Rattle.share_server.proofs.link.writing.write_plan.Goals as goal

-- the end after the reply is not a failure
pub returns-in-Ok-clause-count : goal.returns-in-Ok-clause-count
returns-in-Ok-clause-count g c =
    subst (λ (n : ℕ). CountsMaybe (g.K.Faulted.faults c.args.link.now) n c.args.due) (sym c.in-Ok.ensures.count)
    (c.requires.no_error (g.K.Faulted.faults c.args.link.now))

-- nothing of the reply was written
pub returns-in-Err-Memory-clause-written : goal.returns-in-Err-Memory-clause-written
returns-in-Err-Memory-clause-written g c =
    let is : c.in-Err-Memory.field-0 ≡ Memory = c.in-Err-Memory.field-0-is in
    let same : c.write_reply.new.sink ≡ c.args.link.now = c.in-Err-Memory.ensures.unchanged (cc) in
    let bytes : List ℕ = with_head c.args.status c.args.form (plan_bytes c.args.plan.now) (is_some c.args.due) in
    subst
    (λ (taken : Option (List ℕ)). WasWritten bytes c.args.added c.args.due taken (g.K.Sink.taken c.end_without_head.new.link) (Some c.end_without_head.result))
    (ap g.K.Sink.taken same)
    (c.end_without_head.ensures.written bytes c.args.due)
