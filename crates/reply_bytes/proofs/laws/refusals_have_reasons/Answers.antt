-- The law is its lemma.
use Rattle.reply_bytes.proofs.ReasonFacts.{refusals_have_reasons}
use Rattle.reply_bytes.proofs.laws.refusals_have_reasons.Goals as goal

pub returns : goal.returns
returns c = refusals_have_reasons
