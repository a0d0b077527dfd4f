use Rattle.item_model.specs.Properties.{property_coded}
use Rattle.item_model.proofs.property.Property.by_code.Goals as goal

pub returns : goal.returns
unfolding property_coded
returns c = c.first_coded.ensures
