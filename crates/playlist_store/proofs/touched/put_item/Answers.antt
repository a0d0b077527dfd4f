use Rattle.key_versions.specs.Found.{newest_value}
use Rattle.key_versions.specs.Held.{versions_at}
use Rattle.playlist_store.specs.Reads.{is_key, has_item, pairs_of}
use Rattle.playlist_store.proofs.NearFacts.{near_put}
use Rattle.playlist_store.proofs.touched.put_item.Goals as goal

pub returns : goal.returns
returns c = λ q.
    near_put q (is_key q c.loop-pair.keys.keys) (is_key q c.args.keys.now.keys) (λ key. has_item (newest_value (versions_at key c.args.kept.now.members)) c.args.item) c.loop-pair.pair-iterator
    (pairs_of c.args.item c.args.kept.now.near.keys) (c.in-None.ensures.steps.0) (c.loop-pair.invariant q)
