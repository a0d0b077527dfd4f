-- The law is its lemma.
use Rattle.share_server.proofs.Sessions.{sessions_are_live}
use Rattle.share_server.proofs.laws.sessions_are_live.Goals as goal

pub returns : goal.returns
returns c = sessions_are_live
