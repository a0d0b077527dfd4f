-- One change more is put.
use Rattle.std.proofs.Common.{◌++◌, ap, ◌∙◌, arith}
use Rattle.mirror_core.specs.Changes.{changed}
use Rattle.mirror_core.proofs.MergeFacts.{next_changed}
use Rattle.mirror_core.proofs.merging.push_rest.Goals as goal

pub loop-out-preserved : goal.loop-out-preserved
loop-out-preserved c = record {
  rows = c.push_next.ensures.rows changed ∙ ap (λ rows. c.loop-out.out.items ++ rows) (next_changed c.loop-out.changes.entries) ∙ c.loop-out.invariant.rows;
  room = omega arith;
}
