use Rattle.command_runs.proofs.laws.runs_of_serve_are_decided.Goals as goal

pub returns : goal.returns
returns c = c.runs_are_decided.ensures
