use Rattle.command_runs.proofs.Ranges.{may_serve}
use Rattle.command_runs.proofs.over_net.serving_of.Goals as goal

pub returns-clause-may : goal.returns-clause-may
returns-clause-may c = may_serve c.args.words c.requires
