use Rattle.std.proofs.Common.{drop, ap, ◌∙◌}
use Rattle.std.proofs.lemmas.List.{drop-drop}
use Rattle.item_store.proofs.batches.prune_to.Goals as goal

pub loop-passed-preserved : goal.loop-passed-preserved
loop-passed-preserved c = record {
  named = c.prune_batch.ensures.named ∙ ap (drop 1) c.loop-passed.invariant.named ∙ drop-drop 1 c.loop-passed.passed c.args.named.now.items;
  rows = λ q base h. c.prune_batch.ensures.rows q base h ∙ c.loop-passed.invariant.rows q base h;
}
