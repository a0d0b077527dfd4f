use Rattle.std.proofs.Common.{drop, ap, ◌∙◌}
use Rattle.std.proofs.lemmas.List.{drop-drop}
use Rattle.playlist_store.proofs.PruneFacts.{prunes_all_then}
use Rattle.playlist_store.proofs.prune.prune_to.Goals as goal

pub loop-passed-preserved : goal.loop-passed-preserved
loop-passed-preserved c = record {
  named = c.prune_batch.ensures.named ∙ ap (drop 1) c.loop-passed.invariant.named ∙ drop-drop 1 c.loop-passed.passed c.args.named.now.items;
  lists = λ le.
      prunes_all_then c.args.floor c.args.before c.args.lists.now.entries c.loop-passed.lists.entries c.prune_batch.new.lists.entries (c.loop-passed.invariant.lists le)
      (c.prune_batch.ensures.lists c.args.before le);
}
