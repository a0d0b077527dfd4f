use Rattle.command_runs.proofs.ChainedRuns.{runs_show_the_first}
use Rattle.command_runs.proofs.laws.followers_show_the_first.Goals as goal

pub returns : goal.returns
returns c = runs_show_the_first
