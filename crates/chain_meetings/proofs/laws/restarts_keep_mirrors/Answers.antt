use Rattle.chain_meetings.proofs.Restarted.{restarts_keep_mirrors}
use Rattle.chain_meetings.proofs.laws.restarts_keep_mirrors.Goals as goal

pub returns : goal.returns
returns c = restarts_keep_mirrors
