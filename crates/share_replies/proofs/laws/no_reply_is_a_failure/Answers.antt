-- The law is its lemma.
use Rattle.share_replies.proofs.ReplyFacts.{no_reply_is_a_failure}
use Rattle.share_replies.proofs.laws.no_reply_is_a_failure.Goals as goal

pub returns : goal.returns
returns c = no_reply_is_a_failure
