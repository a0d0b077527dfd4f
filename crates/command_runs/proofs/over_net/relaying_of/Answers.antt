use Rattle.command_runs.proofs.Ranges.{may_relay}
use Rattle.command_runs.proofs.over_net.relaying_of.Goals as goal

pub returns-clause-may : goal.returns-clause-may
returns-clause-may c = may_relay c.args.words c.requires
