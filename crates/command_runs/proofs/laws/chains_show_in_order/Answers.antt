use Rattle.command_runs.proofs.ChainedRuns.{runs_show_in_order}
use Rattle.command_runs.proofs.laws.chains_show_in_order.Goals as goal

pub returns : goal.returns
returns c = runs_show_in_order
