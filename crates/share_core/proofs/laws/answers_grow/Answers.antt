-- The law is its lemma.
use Rattle.share_core.proofs.Growing.{answers_grow}
use Rattle.share_core.proofs.laws.answers_grow.Goals as goal

pub returns : goal.returns
returns c = answers_grow
