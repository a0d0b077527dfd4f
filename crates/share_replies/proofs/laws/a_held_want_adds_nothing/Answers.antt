-- The law is its lemma.
use Rattle.share_replies.proofs.ReplyFacts.{held_wants_add_nothing}
use Rattle.share_replies.proofs.laws.a_held_want_adds_nothing.Goals as goal

pub returns : goal.returns
returns c = held_wants_add_nothing
