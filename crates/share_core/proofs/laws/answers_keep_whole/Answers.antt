-- The law is its lemma.
use Rattle.share_core.proofs.KeepsWhole.{answers_keep_whole}
use Rattle.share_core.proofs.laws.answers_keep_whole.Goals as goal

pub returns : goal.returns
returns c = answers_keep_whole
