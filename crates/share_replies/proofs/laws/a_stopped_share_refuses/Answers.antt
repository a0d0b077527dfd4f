-- The law is its lemma.
use Rattle.share_replies.proofs.ReplyFacts.{stopped_shares_refuse}
use Rattle.share_replies.proofs.laws.a_stopped_share_refuses.Goals as goal

pub returns : goal.returns
returns c = stopped_shares_refuse
