use Rattle.std.proofs.Common.{length}
use Rattle.share_core.proofs.Answered.{between}
use Rattle.share_core.proofs.replies.enter.Goals as goal

pub returns-clause-marked : goal.returns-clause-marked
returns-clause-marked c = between c.args.register.now.history c.reply_with_entry.result c.args.content _ 0 c.mark_of-seen.result _ c.reply_with_entry.ensures c.mark_of-seen.ensures.until c.mark_of-seen.ensures.since
