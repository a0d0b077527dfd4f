use Rattle.prop_index.proofs.LawFacts.{values_by_their_items}
use Rattle.prop_index.proofs.laws.values_by_their_items.Goals as goal

pub returns : goal.returns
returns c = values_by_their_items
