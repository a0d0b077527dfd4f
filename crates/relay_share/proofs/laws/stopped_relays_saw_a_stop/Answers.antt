use Rattle.relay_share.proofs.LeftFacts.{stopped_relays_saw_a_stop}
use Rattle.relay_share.proofs.laws.stopped_relays_saw_a_stop.Goals as goal

pub returns : goal.returns
returns c = stopped_relays_saw_a_stop
