use Rattle.relay_share.proofs.StepFacts.{relays_make_steps}
use Rattle.relay_share.proofs.laws.relays_make_steps.Goals as goal

pub returns : goal.returns
returns c = relays_make_steps
