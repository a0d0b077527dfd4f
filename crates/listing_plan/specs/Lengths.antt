-- How long the tags of properties can be: a number has the bytes of its kind, a text at most `text_limit`, and each tag a
-- head of eight bytes before them.
use Rattle.std.specs.Prelude.{ℕ, ◌+◌, List, [], ◌∷◌}
use Rattle.dmap_tags.specs.declared.kinds.Kind.{Kind}
use Rattle.dmap_tags.specs.declared.kinds.Kind.TheVariants.{U8, I8, U16, I16, U32, I32, U64, I64, Text, Date, Version, List as Members, Opaque}
use Rattle.item_model.specs.Limits.{text_limit}
use Rattle.item_model.specs.Properties.{property_kind}
use Rattle.item_model.specs.declared.property.Property.{Property}

-- no property has a kind with 0 here
abbrev pub most_payload : Kind → ℕ
most_payload U8 = 1
most_payload U16 = 2
most_payload U32 = 4
most_payload Date = 4
most_payload U64 = 8
most_payload Text = text_limit
most_payload I8 = 0
most_payload I16 = 0
most_payload I32 = 0
most_payload I64 = 0
most_payload Version = 0
most_payload Members = 0
most_payload Opaque = 0

abbrev pub tag_most : Property → ℕ
tag_most p = 8 + most_payload (property_kind p)

abbrev pub tags_most : List Property → ℕ
tags_most [] = 0
tags_most (p ∷ ps) = tag_most p + tags_most ps
