-- The law is its lemma.
use Rattle.reply_bytes.proofs.ReasonFacts.{empty_replies_are_empty}
use Rattle.reply_bytes.proofs.laws.empty_replies_are_empty.Goals as goal

pub returns : goal.returns
returns c = empty_replies_are_empty
