use Rattle.playlist_store.proofs.PruneFacts.{prunes_all_then}
use Rattle.playlist_store.proofs.prune.forget_last.Goals as goal

pub loop-index-preserved : goal.loop-index-preserved
loop-index-preserved c = λ floor le.
    prunes_all_then floor c.args.before c.args.lists.now.entries c.loop-index.lists.entries c.forget_all.new.lists.entries (c.loop-index.invariant floor le) (c.forget_all.ensures floor le)
