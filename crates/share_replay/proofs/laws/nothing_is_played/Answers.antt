-- The law is its lemma.
use Rattle.share_replay.proofs.PlayFacts.{nothing_is_played}
use Rattle.share_replay.proofs.laws.nothing_is_played.Goals as goal

pub returns : goal.returns
returns c = nothing_is_played
