-- The law is its lemma.
use Rattle.command_runs.proofs.KeptRuns.{runs_keep_edits}
use Rattle.command_runs.proofs.laws.runs_keep_edits.Goals as goal

pub returns : goal.returns
returns c = runs_keep_edits
