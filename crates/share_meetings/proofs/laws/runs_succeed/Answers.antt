use Rattle.share_meetings.proofs.RelaysSucceed.{runs_succeed}
use Rattle.share_meetings.proofs.laws.runs_succeed.Goals as goal

pub returns : goal.returns
returns c = runs_succeed
