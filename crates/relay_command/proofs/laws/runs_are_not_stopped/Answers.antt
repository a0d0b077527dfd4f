use Rattle.relay_command.proofs.Unstopped.{runs_are_not_stopped}
use Rattle.relay_command.proofs.laws.runs_are_not_stopped.Goals as goal

pub returns : goal.returns
returns c = runs_are_not_stopped
