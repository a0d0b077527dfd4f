use Rattle.command_runs.proofs.MetRuns.{runs_show_the_relay}
use Rattle.command_runs.proofs.laws.runs_show_the_relay.Goals as goal

pub returns : goal.returns
returns c = runs_show_the_relay
