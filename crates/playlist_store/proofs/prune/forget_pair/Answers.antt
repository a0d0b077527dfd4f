use Rattle.playlist_store.proofs.PruneFacts.{pair_stays}
use Rattle.playlist_store.proofs.prune.forget_pair.Goals as goal

pub returns-then-not-has_number : goal.returns-then-not-has_number
returns-then-not-has_number c = λ k other base.
    pair_stays c.args.members.now c.args.item c.args.key k other base c.has_number.result _ _ c.has_number.ensures c.if-not-has_number.true (c.remove.ensures.updates.2 (other, k))
