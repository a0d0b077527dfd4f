use Rattle.playlist_store.proofs.PruneFacts.{prunes_all_then}
use Rattle.playlist_store.proofs.prune.drop_all.Goals as goal

pub loop-id-preserved : goal.loop-id-preserved
loop-id-preserved c = λ before le.
    prunes_all_then c.args.floor before c.args.lists.now.entries c.loop-id.lists.entries c.drop_gone.new.lists.entries (c.loop-id.invariant before le) (c.drop_gone.ensures before le)
