-- What a listing shows of a row: its key in a container, its id, and of the requested properties those that the
-- item has.
use Rattle.std.specs.Prelude.{ℕ, List, [], ◌∷◌, ◌++◌, Option, Some, None, Bool, not, if◌then◌else◌}
use Rattle.std.specs.List.{filter, filter_map, list_any}
use Rattle.std.specs.Option.{option_map}
use Rattle.dmap_tags.specs.Codes.{code}
use Rattle.dmap_tags.specs.Tree.{Leaf, Tree, leaf, list, trees_of}
use Rattle.dmap_tags.specs.Tree as tree
use Rattle.dmap_tags.specs.declared.kinds.Kind.{Kind}
use Rattle.dmap_tags.specs.declared.kinds.Kind.TheVariants.{U8, I8, U16, I16, U32, I32, U64, I64, Text, Date, Version, List as Members, Opaque}
use Rattle.item_model.specs.declared.property.Property.{Property}
use Rattle.item_model.specs.declared.property.Property.TheVariants.{Mikd, Minm, Asar, Asal, Astn, Astm}
use Rattle.item_model.specs.declared.item.PropValue.{PropValue}
use Rattle.item_model.specs.declared.item.PropValue.TheVariants.{Number, Text as Words}
use Rattle.item_model.specs.declared.item.Row.{Row}
use Rattle.item_model.specs.declared.request.Meta.{Meta}
use Rattle.item_model.specs.declared.request.Meta.TheVariants.{Default, All, Names}
use Rattle.item_model.specs.Properties.{all_properties, is_same, property_code, property_kind}
use Rattle.item_model.specs.Items.{value_of}

-- each property once, at its first mention
abbrev pub first_mentions : List Property → List Property
first_mentions [] = []
first_mentions (p ∷ ps) = p ∷ filter (λ q. not (is_same p q)) (first_mentions ps)

abbrev pub mentions : List Property → Property → Bool
mentions ps p = list_any (λ q. is_same q p) ps

-- what a property adds to those mentioned before
abbrev pub new_mention : List Property → Property → List Property
new_mention ps p = if mentions ps p then [] else p ∷ []

-- what a listing shows if the request names nothing, in order
abbrev pub default_projection : List Property
default_projection = Mikd ∷ Minm ∷ Asar ∷ Asal ∷ Astn ∷ Astm ∷ []

-- the properties that are requested, in order
abbrev pub asked : Meta → List Property
asked Default = default_projection
asked All = all_properties
asked (Names ps) = first_mentions ps

-- a number of that kind; no item has a number of one of the last kinds
abbrev pub number_leaf : Kind → ℕ → Leaf
number_leaf U8 n = tree.U8 n
number_leaf U16 n = tree.U16 n
number_leaf U32 n = tree.U32 n
number_leaf Date n = tree.Date n
number_leaf U64 n = tree.U64 n
number_leaf I8 n = tree.U64 n
number_leaf I16 n = tree.U64 n
number_leaf I32 n = tree.U64 n
number_leaf I64 n = tree.U64 n
number_leaf Text n = tree.U64 n
number_leaf Version n = tree.U64 n
number_leaf Members n = tree.U64 n
number_leaf Opaque n = tree.U64 n

abbrev pub value_leaf : Kind → PropValue → Leaf
value_leaf kind (Number n) = number_leaf kind n
value_leaf kind (Words bytes) = tree.Text bytes

-- the tag of a property with a value
abbrev pub property_tag : Property → PropValue → Tree
property_tag p v = leaf (property_code p) (value_leaf (property_kind p) v)

-- the tags of those of the properties that the item has
abbrev pub shown : List (Property × PropValue) → List Property → List Tree
shown item ps = filter_map (λ p. option_map (property_tag p) (value_of p item)) ps

-- the key of a member of a container, if there is one, and the item's id
abbrev pub keys : Option ℕ → ℕ → List Tree
keys None id = leaf (code "miid") (tree.U32 id) ∷ []
keys (Some member) id = leaf (code "mcti") (tree.U32 member) ∷ leaf (code "miid") (tree.U32 id) ∷ []

-- the tag that lists a row with these properties
abbrev pub listed_row : Row → Option ℕ → List Property → Tree
listed_row row member ps = list (code "mlit") (trees_of (keys member row.id ++ shown row.item ps))

abbrev pub projection : Row → Option ℕ → Meta → Tree
projection row member meta = listed_row row member (asked meta)
