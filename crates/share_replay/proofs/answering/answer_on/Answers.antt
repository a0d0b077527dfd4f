use Rattle.std.proofs.Common.{subst}
use Rattle.share_replay.specs.Told.{IsDue, IsDueRefusal, IsDueReply}
use Rattle.share_replay.specs.declared.asking.Output.{Output}
use Rattle.share_replay.proofs.TurnFacts.{refusal_answered, refusal_broken, reply_answered, reply_broken}
use Rattle.share_replay.proofs.answering.answer_on.Goals as goal

pub returns-in-Ok-Reply-clause-answered : goal.returns-in-Ok-Reply-clause-answered
returns-in-Ok-Reply-clause-answered g c =
    let a = c.in-Ok-Reply in
    let told : IsDueReply c.args.share.now c.next_output.new.share c.args.number c.args.connection.now a.content a.close =
    subst (λ (x : Output). IsDue c.args.share.now c.next_output.new.share c.args.number c.args.connection.now x) a.field-0-is a.ensures.told in
    reply_answered c.reply_on.result c.args.share.now c.next_output.new.share c.args.number c.args.connection.now c.reply_on.new.connection a.content a.close
    (g.W.Sink.taken c.args.sink.now) (g.W.Sink.taken c.reply_on.new.sink) told c.reply_on.ensures.connection c.reply_on.ensures.written

pub returns-in-Ok-Reply-clause-part : goal.returns-in-Ok-Reply-clause-part
returns-in-Ok-Reply-clause-part g c =
    let a = c.in-Ok-Reply in
    let told : IsDueReply c.args.share.now c.next_output.new.share c.args.number c.args.connection.now a.content a.close =
    subst (λ (x : Output). IsDue c.args.share.now c.next_output.new.share c.args.number c.args.connection.now x) a.field-0-is a.ensures.told in
    reply_broken c.reply_on.result c.args.share.now c.next_output.new.share c.args.number c.args.connection.now a.content a.close
    (g.W.Sink.taken c.args.sink.now) (g.W.Sink.taken c.reply_on.new.sink) told c.reply_on.ensures.part

pub returns-in-Ok-Refusal-clause-answered : goal.returns-in-Ok-Refusal-clause-answered
returns-in-Ok-Refusal-clause-answered g c =
    let a = c.in-Ok-Refusal in
    let told : IsDueRefusal c.args.share.now c.next_output.new.share c.args.connection.now a.status =
    subst (λ (x : Output). IsDue c.args.share.now c.next_output.new.share c.args.number c.args.connection.now x) a.field-0-is a.ensures.told in
    refusal_answered c.refuse_on.result c.args.share.now c.next_output.new.share c.args.number c.args.connection.now c.refuse_on.new.connection a.status
    (g.W.Sink.taken c.args.sink.now) (g.W.Sink.taken c.refuse_on.new.sink) told c.refuse_on.ensures.connection c.refuse_on.ensures.written

pub returns-in-Ok-Refusal-clause-part : goal.returns-in-Ok-Refusal-clause-part
returns-in-Ok-Refusal-clause-part g c =
    let a = c.in-Ok-Refusal in
    let told : IsDueRefusal c.args.share.now c.next_output.new.share c.args.connection.now a.status =
    subst (λ (x : Output). IsDue c.args.share.now c.next_output.new.share c.args.number c.args.connection.now x) a.field-0-is a.ensures.told in
    refusal_broken c.refuse_on.result c.args.share.now c.next_output.new.share c.args.number c.args.connection.now a.status
    (g.W.Sink.taken c.args.sink.now) (g.W.Sink.taken c.refuse_on.new.sink) told c.refuse_on.ensures.part
