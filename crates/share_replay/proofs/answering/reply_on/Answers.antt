use Rattle.std.proofs.Common.{Bool, List, ℕ}
use Rattle.listing_plan.specs.Plans.{plan_bytes}
use Rattle.reply_bytes.specs.ReplyBytes.{with_head}
use Rattle.share_replay.proofs.TurnFacts.{cut_end, cut_reply, told_end, told_reply}
use Rattle.share_replay.proofs.answering.reply_on.Goals as goal

pub returns-in-Err-clause-part : goal.returns-in-Err-clause-part
returns-in-Err-clause-part g c =
    let content = c.args.content.now in
    let f : Bool → List ℕ = λ last. with_head content.status content.form (plan_bytes content.plan) last in
    cut_reply c.args.number c.args.share.now.history c.args.connection.now f c.args.close c.last_by-last.result c.is_some.result
    (g.W.Sink.taken c.args.sink.now) (g.W.Sink.taken c.tell_reply.new.sink) c.last_by-last.ensures c.is_some.ensures c.in-Err.ensures.part

pub returns-in-Err-count-clause-part : goal.returns-in-Err-count-clause-part
returns-in-Err-count-clause-part g c =
    let content = c.args.content.now in
    let f : Bool → List ℕ = λ last. with_head content.status content.form (plan_bytes content.plan) last in
    told_reply c.args.number c.args.share.now.history c.args.connection.now f c.args.close c.last_by-last.result c.is_some.result
    (g.W.Sink.taken c.args.sink.now) (g.W.Sink.taken c.tell_reply.new.sink) c.last_by-last.ensures c.is_some.ensures c.in-Ok.ensures.told

pub returns-in-Err-tell_end-clause-part : goal.returns-in-Err-tell_end-clause-part
returns-in-Err-tell_end-clause-part g c =
    let content = c.args.content.now in
    let f : Bool → List ℕ = λ last. with_head content.status content.form (plan_bytes content.plan) last in
    cut_end c.args.number c.args.share.now.history c.args.connection.now f c.args.close c.last_by-last.result c.in-Ok-count.end c.is_some.result
    (g.W.Sink.taken c.args.sink.now) (g.W.Sink.taken c.tell_reply.new.sink) (g.W.Sink.taken c.tell_end.new.sink) c.last_by-last.ensures c.is_some.ensures
    c.in-Ok-count.ensures.end c.in-Ok.ensures.told c.in-Err-tell_end.ensures.part

pub returns-in-Ok-tell_end-clause-written : goal.returns-in-Ok-tell_end-clause-written
returns-in-Ok-tell_end-clause-written g c =
    let content = c.args.content.now in
    let f : Bool → List ℕ = λ last. with_head content.status content.form (plan_bytes content.plan) last in
    told_end c.args.number c.args.share.now.history c.args.connection.now f c.args.close c.last_by-last.result c.in-Ok-count.end c.is_some.result
    (g.W.Sink.taken c.args.sink.now) (g.W.Sink.taken c.tell_reply.new.sink) (g.W.Sink.taken c.tell_end.new.sink) c.last_by-last.ensures c.is_some.ensures
    c.in-Ok-count.ensures.end c.in-Ok.ensures.told c.in-Ok-tell_end.ensures.told
