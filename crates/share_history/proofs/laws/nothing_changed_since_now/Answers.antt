-- The law is its lemma.
use Rattle.share_history.proofs.LawFacts.{nothing_changed_since_now}
use Rattle.share_history.proofs.laws.nothing_changed_since_now.Goals as goal

pub returns : goal.returns
returns c = nothing_changed_since_now
