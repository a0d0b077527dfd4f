use Rattle.std.proofs.Common.{subst}
use Rattle.share_core.specs.Told.{IsAnswer}
use Rattle.share_core.specs.declared.answer.Answer.{Answer}
use Rattle.share_core.specs.declared.answer.Answer.TheVariants.{Reply}
use Rattle.share_replay.proofs.AskFacts.{says}
use Rattle.share_replay.proofs.asking.ask_share_with.Goals as goal

pub returns-in-Ok-Reply-clause-content : goal.returns-in-Ok-Reply-clause-content
returns-in-Ok-Reply-clause-content g c =
    says c.args.share.now c.answer.new.self c.args.number c.args.ask.now.want (Reply c.in-Ok-Reply.reply)
    (subst (λ (a : Answer). IsAnswer c.args.share.now c.answer.new.self c.args.number c.args.ask.now.want a) c.in-Ok-Reply.field-0-is c.in-Ok-Reply.ensures.answered)
