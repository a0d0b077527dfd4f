-- The law is its lemma.
use Rattle.share_history.proofs.SessionFacts.{logins_stay_orderly}
use Rattle.share_history.proofs.laws.a_login_stays_orderly.Goals as goal

pub returns : goal.returns
returns c = logins_stay_orderly
