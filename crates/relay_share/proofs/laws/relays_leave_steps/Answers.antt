use Rattle.relay_share.proofs.LeftFacts.{relays_leave_steps}
use Rattle.relay_share.proofs.laws.relays_leave_steps.Goals as goal

pub returns : goal.returns
returns c = relays_leave_steps
