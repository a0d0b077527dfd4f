-- The law is its lemma.
use Rattle.share_replay.proofs.PlayFacts.{histories_go_on}
use Rattle.share_replay.proofs.laws.histories_go_on.Goals as goal

pub returns : goal.returns
returns c = histories_go_on
