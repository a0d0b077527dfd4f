use Rattle.item_model.specs.Properties.{property_named}
use Rattle.item_model.proofs.property.property_of_name.Goals as goal

pub returns : goal.returns
unfolding property_named
returns c = c.first_named.ensures
