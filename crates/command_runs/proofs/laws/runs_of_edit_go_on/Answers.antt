use Rattle.command_runs.proofs.ReachedRuns.{runs_of_edit_go_on}
use Rattle.command_runs.proofs.laws.runs_of_edit_go_on.Goals as goal

pub returns : goal.returns
returns c = runs_of_edit_go_on
