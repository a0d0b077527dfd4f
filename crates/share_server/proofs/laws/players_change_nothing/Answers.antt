-- The law is its lemma.
use Rattle.share_server.proofs.Listening.{players_change_nothing}
use Rattle.share_server.proofs.laws.players_change_nothing.Goals as goal

pub returns : goal.returns
returns c = players_change_nothing
