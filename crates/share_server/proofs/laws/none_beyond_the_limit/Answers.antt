-- The law is its lemma.
use Rattle.share_server.proofs.Counting.{none_beyond_the_limit}
use Rattle.share_server.proofs.laws.none_beyond_the_limit.Goals as goal

pub returns : goal.returns
returns c = none_beyond_the_limit
