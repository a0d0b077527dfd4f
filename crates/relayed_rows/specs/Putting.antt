-- An item that gets the properties in tags, one after another.
use Rattle.std.specs.Prelude.{List, Option, Some, None, fold}
use Rattle.dmap_tags.specs.Tree.{Tree}
use Rattle.item_model.specs.declared.item.PropValue.{PropValue}
use Rattle.item_model.specs.declared.property.Property.{Property}
use Rattle.item_model.specs.Items.{with_value}
use Rattle.relayed_rows.specs.ReadRows.{first_told}

abbrev pub with_told : Property → Option PropValue → List (Property × PropValue) → List (Property × PropValue)
with_told p None item = item
with_told p (Some v) item = with_value p v item

abbrev pub put_told : List Tree → List (Property × PropValue) → Property → List (Property × PropValue)
put_told tags item p = with_told p (first_told p tags) item

abbrev pub put_all_told : List Tree → List (Property × PropValue) → List Property → List (Property × PropValue)
put_all_told tags item ps = fold (put_told tags) item ps
