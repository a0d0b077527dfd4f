-- The law is its lemma.
use Rattle.share_server.proofs.Endings.{ends_stay}
use Rattle.share_server.proofs.laws.ends_stay.Goals as goal

pub returns : goal.returns
returns c = ends_stay
