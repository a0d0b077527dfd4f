use Rattle.std.proofs.Common.{get_or}
use Rattle.std.proofs.lemmas.List.{get_or_default}
use Rattle.playlist_store.proofs.BackFacts.{pops_more}
use Rattle.playlist_store.proofs.lists.pop_all.Goals as goal

pub loop-id-preserved : goal.loop-id-preserved
loop-id-preserved c = λ some.
    pops_more c.args.revision c.args.ids.now c.loop-id.id-index _ c.args.lists.now.entries c.loop-id.lists.entries c.pop.new.lists.entries some c.loop-id-test.true
    (get_or_default c.args.ids.now c.loop-id.id-index 0 (get_or c.args.ids.now c.loop-id.id-index 0) c.loop-id-test.true)
    (c.loop-id.invariant some) (c.pop.ensures.here some) c.pop.ensures.others
