use Rattle.chain_meetings.proofs.Chained.{chains_show_in_order}
use Rattle.chain_meetings.proofs.laws.chains_show_in_order.Goals as goal

pub returns : goal.returns
returns c = chains_show_in_order
