use Rattle.playlist_store.proofs.ReadFacts.{kept_is}
use Rattle.playlist_store.proofs.store.PlaylistStore.kept.Goals as goal

pub returns : goal.returns
returns c = kept_is c.self.view_is c.is_kept.result c.args.list c.args.base c.since-since.result c.since-since.ensures c.is_kept.ensures
