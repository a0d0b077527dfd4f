-- The law is its lemma.
use Rattle.share_replies.proofs.ReplyFacts.{entries_are_the_askers}
use Rattle.share_replies.proofs.laws.an_entry_is_its_askers.Goals as goal

pub returns : goal.returns
returns c = entries_are_the_askers
