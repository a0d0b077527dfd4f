use Rattle.relay_share.proofs.StopFacts.{stops_come_last}
use Rattle.relay_share.proofs.laws.stops_come_last.Goals as goal

pub returns : goal.returns
returns c = stops_come_last
