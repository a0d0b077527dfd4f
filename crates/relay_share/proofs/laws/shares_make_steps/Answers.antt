use Rattle.relay_share.proofs.LeftFacts.{shares_make_steps}
use Rattle.relay_share.proofs.laws.shares_make_steps.Goals as goal

pub returns : goal.returns
returns c = shares_make_steps
