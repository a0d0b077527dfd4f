-- The law is its lemma.
use Rattle.share_replies.proofs.ReplyFacts.{small_bodies_by_the_byte}
use Rattle.share_replies.proofs.laws.small_bodies_by_the_byte.Goals as goal

pub returns : goal.returns
returns c = small_bodies_by_the_byte
