use Rattle.command_runs.proofs.MetRuns.{runs_show_the_share}
use Rattle.command_runs.proofs.laws.runs_show_the_share.Goals as goal

pub returns : goal.returns
returns c = runs_show_the_share
