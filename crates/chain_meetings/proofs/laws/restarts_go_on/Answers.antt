use Rattle.chain_meetings.proofs.Restarted.{restarts_go_on}
use Rattle.chain_meetings.proofs.laws.restarts_go_on.Goals as goal

pub returns : goal.returns
returns c = restarts_go_on
