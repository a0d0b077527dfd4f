-- The law is its lemma.
use Rattle.share_history.proofs.EditFacts.{batches-at_revision}
use Rattle.share_history.proofs.laws.batches_make_revisions.Goals as goal

pub returns : goal.returns
returns c = batches-at_revision
