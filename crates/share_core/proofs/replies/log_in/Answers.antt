use Rattle.std.proofs.Common.{length}
use Rattle.share_core.proofs.Answered.{between}
use Rattle.share_core.proofs.replies.log_in.Goals as goal

pub returns-clause-marked : goal.returns-clause-marked
returns-clause-marked c = between c.args.register.now.history c.reply_with_entry.result c.args.content _ c.args.id c.mark_of-seen.result _ c.reply_with_entry.ensures c.mark_of-seen.ensures.until c.mark_of-seen.ensures.since
