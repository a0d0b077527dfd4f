-- The law is its lemma.
use Rattle.command_runs.proofs.KeptRuns.{runs_tell_of_edits}
use Rattle.command_runs.proofs.laws.runs_tell_of_edits.Goals as goal

pub returns : goal.returns
returns c = runs_tell_of_edits
