use Rattle.command_core.specs.Seen.{input_seen}
use Rattle.command_runs.proofs.local.run_rehearse.Goals as goal

pub returns : goal.returns
returns g c = λ around. c.rehearse_share.ensures.answered around (input_seen (g.I.Source.left c.args.input.now) (g.I.Faulted.faults c.args.input.now))
