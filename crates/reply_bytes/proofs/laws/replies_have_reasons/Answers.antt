-- The law is its lemma.
use Rattle.reply_bytes.proofs.ReasonFacts.{replies_have_reasons}
use Rattle.reply_bytes.proofs.laws.replies_have_reasons.Goals as goal

pub returns : goal.returns
returns c = replies_have_reasons
