-- A change that has the row's key takes its place.
use Rattle.mirror_core.proofs.merging.push_row.Goals as goal

pub returns-then-push_up_to-clause-rows : goal.returns-then-push_up_to-clause-rows
returns-then-push_up_to-clause-rows c = λ rest. rw c.if-push_up_to.true at (c.push_up_to.ensures.rows c.args.row.1 rest)
