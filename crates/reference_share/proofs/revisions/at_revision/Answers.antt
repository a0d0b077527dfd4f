-- If the entries end before the wanted batches, the history at the revision is all of them.
use Rattle.std.proofs.Common.{sym, ◌∙◌}
use Rattle.reference_share.proofs.LoopFacts.{until_end}
use Rattle.reference_share.proofs.revisions.at_revision.Goals as goal

pub returns : goal.returns
returns c = sym (until_end c.loop-place.left c.args.history.now c.loop-place.place c.loop-place-test.false) ∙ c.loop-place.invariant
