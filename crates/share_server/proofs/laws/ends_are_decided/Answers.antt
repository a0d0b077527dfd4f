-- The law is its lemma.
use Rattle.share_server.proofs.Endings.{ends_are_decided}
use Rattle.share_server.proofs.laws.ends_are_decided.Goals as goal

pub returns : goal.returns
returns c = ends_are_decided
