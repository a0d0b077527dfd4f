-- What contracts see of a sheet: its rows, and the properties of which it keeps the encoded tags.
use Rattle.std.specs.Prelude.{List}
use Rattle.item_model.specs.declared.item.Row.{Row}
use Rattle.item_model.specs.declared.property.Property.{Property}

pub record Spelled : Type 0 where
  pub rows : List Row
  pub properties : List Property
