-- The law is its lemma.
use Rattle.share_replies.proofs.ReplyFacts.{others_are_forbidden}
use Rattle.share_replies.proofs.laws.others_are_forbidden.Goals as goal

pub returns : goal.returns
returns c = others_are_forbidden
