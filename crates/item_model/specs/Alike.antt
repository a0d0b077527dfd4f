-- Whether two items have equal values of a property.
use Rattle.std.specs.Prelude.{List, Bool, true, false, ◌==◌, Option, Some, None}
use Rattle.std.specs.Str.{bytes_eq}
use Rattle.dmap_tags.specs.Tree.{Trees, trees_of}
use Rattle.item_model.specs.declared.property.Property.{Property}
use Rattle.item_model.specs.declared.item.PropValue.{PropValue}
use Rattle.item_model.specs.declared.item.PropValue.TheVariants.{Number, Text as Words}
use Rattle.item_model.specs.Projection.{shown}

abbrev pub is_equal_value : PropValue → PropValue → Bool
is_equal_value (Number n) (Number m) = n == m
is_equal_value (Number n) (Words others) = false
is_equal_value (Words bytes) (Number m) = false
is_equal_value (Words bytes) (Words others) = bytes_eq bytes others

-- equal values, or no value on either side
abbrev pub have_equal_value : Option PropValue → Option PropValue → Bool
have_equal_value None None = true
have_equal_value None (Some w) = false
have_equal_value (Some v) None = false
have_equal_value (Some v) (Some w) = is_equal_value v w

-- the tags that a listing shows of an item, as the members of a tag
abbrev pub shown_trees : List (Property × PropValue) → List Property → Trees
shown_trees item ps = trees_of (shown item ps)
