-- A tag as a JSON value: an object of its content code, the name of its kind and its value. A list's value is an array
-- of its members' objects.
use Rattle.std.specs.Prelude.{List, ℕ, codes, flat_map}
use Rattle.serde_json.specs.Data.{Data, number, string, array, object, unsigned, Items, no_items, item, member, no_members}
use Rattle.serde_json.specs.Find.{of_integer}
use Rattle.dmap_tags.specs.Tree.{Leaf, U8, I8, U16, I16, U32, I32, U64, I64, Text, Date, Version, Opaque, Tree, leaf, list, Trees, none, more, tree_code}
use Rattle.dmap_show.specs.Shown.{hex, shown_code, word_of}

abbrev pub tag_object : List ℕ → List ℕ → Data → Data
tag_object code kind value = object (member (codes "code") (string code) (member (codes "kind") (string kind) (member (codes "value") value no_members)))

-- a whole number, a text, or the bytes in lower-case hex digits
abbrev pub json_leaf : Leaf → Data
json_leaf (U8 n) = number (unsigned n)
json_leaf (I8 z) = number (of_integer z)
json_leaf (U16 n) = number (unsigned n)
json_leaf (I16 z) = number (of_integer z)
json_leaf (U32 n) = number (unsigned n)
json_leaf (I32 z) = number (of_integer z)
json_leaf (U64 n) = number (unsigned n)
json_leaf (I64 z) = number (of_integer z)
json_leaf (Text bytes) = string bytes
json_leaf (Date n) = number (unsigned n)
json_leaf (Version n) = number (unsigned n)
json_leaf (Opaque bytes) = string (flat_map hex bytes)

abbrev mutual
  pub json_held : Tree → Data
  json_held (leaf c l) = json_leaf l
  json_held (list c ts) = array (json_items ts)

  pub json_items : Trees → Items
  json_items none = no_items
  json_items (more t ts) = item (tag_object (shown_code (tree_code t)) (word_of t) (json_held t)) (json_items ts)

abbrev pub json_of : Tree → Data
json_of t = tag_object (shown_code (tree_code t)) (word_of t) (json_held t)
