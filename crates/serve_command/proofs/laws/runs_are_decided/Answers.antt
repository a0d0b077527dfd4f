-- The law is its lemma.
use Rattle.serve_command.proofs.Deciding.{runs_are_decided}
use Rattle.serve_command.proofs.laws.runs_are_decided.Goals as goal

pub returns : goal.returns
returns c = runs_are_decided
