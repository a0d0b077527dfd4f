use Rattle.std.proofs.Common.{refl}
use Rattle.item_store.proofs.StandFacts.{changed_told}
use Rattle.item_store.proofs.store.ItemStore.changed_since.Goals as goal

pub returns : goal.returns
returns c =
    changed_told (λ v. v.items) c.self.inside.named.items (λ v. v.items) c.listed.result c.args.base c.saturating_sub-passed.result c.in-Ok.ids.keys c.self.view_is refl
    c.saturating_sub-passed.ensures c.requires.from c.in-Ok.ensures c.listed.ensures
