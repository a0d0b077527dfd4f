use Rattle.playlist_store.proofs.PruneFacts.{prunes_all_then, forgets_prunes}
use Rattle.playlist_store.proofs.prune.forget_all.Goals as goal

pub loop-id-preserved : goal.loop-id-preserved
loop-id-preserved c = λ floor le.
    prunes_all_then floor c.args.before c.args.lists.now.entries c.loop-id.lists.entries c.forget.new.lists.entries (c.loop-id.invariant floor le)
    (forgets_prunes floor c.args.before _ c.loop-id.lists.entries c.forget.new.lists.entries c.forget.ensures.here c.forget.ensures.others)
