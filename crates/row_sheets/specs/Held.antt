-- The properties of a sheet: those that some row has. What a listing shows by default comes first, so that it lies side by
-- side.
use Rattle.std.specs.Prelude.{◌≡◌, ◌<◌, ℕ, List, ◌++◌, length, slice_index_or, Bool, is_some, filter}
use Rattle.std.specs.List.{list_any}
use Rattle.item_model.specs.declared.item.Row.{Row}
use Rattle.item_model.specs.declared.property.Property.{Property}
use Rattle.item_model.specs.Items.{value_of}
use Rattle.item_model.specs.Properties.{all_properties}
use Rattle.item_model.specs.Projection.{default_projection, first_mentions}

-- all properties, those of the default projection first
unfoldable pub sheet_order : List Property
sheet_order = first_mentions (default_projection ++ all_properties)

-- some row has the property
abbrev pub is_held : List Row → Property → Bool
is_held rows p = list_any (λ row. is_some (value_of p row.item)) rows

abbrev pub held_properties : List Row → List Property
held_properties rows = filter (is_held rows) sheet_order

-- the property is at this index
pub record IsIndex (ps : List Property) (index : ℕ) (p : Property) : Type 0 where
  pub below : index < length ps
  pub there : slice_index_or ps index p ≡ p
