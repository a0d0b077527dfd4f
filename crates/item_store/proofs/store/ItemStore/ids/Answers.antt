use Rattle.item_store.proofs.StandFacts.{ids_told}
use Rattle.item_store.proofs.store.ItemStore.ids.Goals as goal

pub returns : goal.returns
returns c = ids_told (λ v. v.items) c.keys.result c.self.view_is c.keys.ensures
