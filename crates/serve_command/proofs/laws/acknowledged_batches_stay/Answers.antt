-- The law is its lemma.
use Rattle.serve_command.proofs.Keeping.{acknowledged_batches_stay}
use Rattle.serve_command.proofs.laws.acknowledged_batches_stay.Goals as goal

pub returns : goal.returns
returns c = acknowledged_batches_stay
