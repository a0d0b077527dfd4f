use Rattle.playlist_store.proofs.ReadFacts.{count_told}
use Rattle.playlist_store.proofs.store.PlaylistStore.count.Goals as goal

pub returns : goal.returns
returns c = count_told c.self.view_is c.count.result c.count.ensures.count c.count.ensures.ascending
