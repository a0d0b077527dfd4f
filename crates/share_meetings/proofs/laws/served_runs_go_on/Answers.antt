-- The law is its lemma.
use Rattle.share_meetings.proofs.Completes.{served_runs_go_on}
use Rattle.share_meetings.proofs.laws.served_runs_go_on.Goals as goal

pub returns : goal.returns
returns c = served_runs_go_on
