use Rattle.std.proofs.Common.{subst}
use Rattle.share_core.specs.Told.{IsAnswer}
use Rattle.share_core.specs.declared.answer.Answer.{Answer}
use Rattle.bench_work.proofs.Written.{reply_is_writable}
use Rattle.bench_work.proofs.share.asking.reply_to.Goals as goal

pub returns : goal.returns
returns g c =
    reply_is_writable c.args.share.now c.answer.new.self 1 c.args.want c.in-Reply.reply
    (subst (λ (a : Answer). IsAnswer c.args.share.now c.answer.new.self 1 c.args.want a) c.in-Reply.is c.in_ok-reply.ensures.answered)
