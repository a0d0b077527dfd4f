-- The law is its lemma.
use Rattle.share_server.proofs.InTurn.{quiet_turns_serve_nothing}
use Rattle.share_server.proofs.laws.quiet_turns_serve_nothing.Goals as goal

pub returns : goal.returns
returns c = quiet_turns_serve_nothing
