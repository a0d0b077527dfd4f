use Rattle.chain_meetings.proofs.Chained.{relays_step_through}
use Rattle.chain_meetings.proofs.laws.relays_step_through.Goals as goal

pub returns : goal.returns
returns c = relays_step_through
