-- The law is its lemma.
use Rattle.share_replay.proofs.PlayFacts.{ended_connections_rest}
use Rattle.share_replay.proofs.laws.ended_connections_rest.Goals as goal

pub returns : goal.returns
returns c = ended_connections_rest
