-- The row in a listing's `mlit`: an id of at least 1 comes first; the members after it that are properties, with a
-- value of their kind and range, make the item. Of two members of one property the first is used, and all others are
-- skipped. The code of the list itself is not checked.
use Rattle.std.specs.Prelude.{ℕ, List, [], ◌∷◌, filter_map, Option, Some, None, option_map, option_and_then, if◌then◌else◌}
use Rattle.std.specs.Option.{option_or}
use Rattle.dmap_tags.specs.Codes.{is_code}
use Rattle.dmap_tags.specs.Tree.{Tree, leaf, list, tree_code, tree_list}
use Rattle.dmap_tags.specs.Tree as tree
use Rattle.dmap_tags.specs.declared.kinds.Kind.{Kind}
use Rattle.dmap_tags.specs.declared.kinds.Kind.TheVariants.{U8, U16, U32, U64, Text, Date}
use Rattle.item_model.specs.declared.item.PropValue.{PropValue}
use Rattle.item_model.specs.declared.item.PropValue.TheVariants.{Number, Text as Words}
use Rattle.item_model.specs.declared.item.Row.{Row}
use Rattle.item_model.specs.declared.property.Property.{Property}
use Rattle.item_model.specs.declared.request.Target.TheVariants.{Items}
use Rattle.item_model.specs.Items.{is_of_kind}
use Rattle.item_model.specs.Properties.{all_properties, property_code, property_kind}
use Rattle.item_model.specs.Valid.{is_id}
use Rattle.share_history.specs.LastSaid.{only_if}
use Rattle.mirror_core.specs.Reading.{key_of}

-- a tag's value as one of the kind
abbrev pub value_of_kind : Kind → Tree → Option PropValue
value_of_kind U8 (leaf c (tree.U8 n)) = Some (Number n)
value_of_kind U16 (leaf c (tree.U16 n)) = Some (Number n)
value_of_kind U32 (leaf c (tree.U32 n)) = Some (Number n)
value_of_kind U64 (leaf c (tree.U64 n)) = Some (Number n)
value_of_kind Date (leaf c (tree.Date n)) = Some (Number n)
value_of_kind Text (leaf c (tree.Text bytes)) = Some (Words bytes)
value_of_kind kind tag = None

-- the value, if it is in the kind's range
abbrev pub if_of_kind : Kind → PropValue → Option PropValue
if_of_kind kind v = only_if (is_of_kind kind v) v

-- a tag's value as one of the property
abbrev pub value_told : Property → Tree → Option PropValue
value_told p tag = if is_code (tree_code tag) (property_code p) then option_and_then (if_of_kind (property_kind p)) (value_of_kind (property_kind p) tag) else None

abbrev pub first_told : Property → List Tree → Option PropValue
first_told p [] = None
first_told p (tag ∷ tags) = option_or (value_told p tag) (first_told p tags)

-- the properties that tags state, in the order of listings
abbrev pub item_told : List Tree → List (Property × PropValue)
item_told tags = filter_map (λ p. option_map (λ v. (p, v)) (first_told p tags)) all_properties

abbrev pub id_told : Tree → Option ℕ
id_told tag = only_if (is_id (key_of Items tag)) (key_of Items tag)

abbrev pub row_among : List Tree → Option Row
row_among [] = None
row_among (key ∷ members) = option_map (λ id. record { id = id; item = item_told members }) (id_told key)

unfoldable pub row_of : Tree → Option Row
row_of (leaf c value) = None
row_of (list c members) = row_among (tree_list members)
