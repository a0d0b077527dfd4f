use Rattle.chain_meetings.proofs.Resumed.{acknowledged_batches_go_on}
use Rattle.chain_meetings.proofs.laws.acknowledged_batches_go_on.Goals as goal

pub returns : goal.returns
returns c = acknowledged_batches_go_on
