use Rattle.playlist_store.proofs.ReadFacts.{lists_told}
use Rattle.playlist_store.proofs.store.PlaylistStore.lists.Goals as goal

pub returns : goal.returns
returns c = lists_told (λ ids. ids.items) c.ids.result c.self.view_is c.ids.ensures.ids c.ids.ensures.ascending
