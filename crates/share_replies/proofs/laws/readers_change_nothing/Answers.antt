-- The law is its lemma.
use Rattle.share_replies.proofs.ReplyFacts.{readers_change_nothing}
use Rattle.share_replies.proofs.laws.readers_change_nothing.Goals as goal

pub returns : goal.returns
returns c = readers_change_nothing
