use Rattle.command_runs.proofs.FileRuns.{runs_keep_the_file}
use Rattle.command_runs.proofs.laws.acknowledged_batches_stay.Goals as goal

pub returns : goal.returns
returns c = runs_keep_the_file
