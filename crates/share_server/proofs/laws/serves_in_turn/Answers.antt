-- The law is its lemma.
use Rattle.share_server.proofs.InTurn.{serves_in_turn}
use Rattle.share_server.proofs.laws.serves_in_turn.Goals as goal

pub returns : goal.returns
returns c = serves_in_turn
