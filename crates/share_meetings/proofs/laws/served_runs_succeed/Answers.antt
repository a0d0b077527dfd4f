use Rattle.share_meetings.proofs.RelaysSucceed.{served_runs_succeed}
use Rattle.share_meetings.proofs.laws.served_runs_succeed.Goals as goal

pub returns : goal.returns
returns c = served_runs_succeed
