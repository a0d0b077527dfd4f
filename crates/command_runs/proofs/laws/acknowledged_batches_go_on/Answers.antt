use Rattle.command_runs.proofs.FileRuns.{runs_go_on}
use Rattle.command_runs.proofs.laws.acknowledged_batches_go_on.Goals as goal

pub returns : goal.returns
returns c = runs_go_on
