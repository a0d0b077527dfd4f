-- The law is its lemma.
use Rattle.share_replay.proofs.OutputFacts.{outputs_go_on}
use Rattle.share_replay.proofs.laws.outputs_go_on.Goals as goal

pub returns : goal.returns
returns c = outputs_go_on
