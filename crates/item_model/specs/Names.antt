-- The `meta` parameter: names of properties with commas between them. All parts between commas count, known
-- or not, and a name of no property requests nothing.
use Rattle.std.specs.Prelude.{ℕ, List, [], ◌∷◌, ◌++◌, Option, Some, None, ◌==◌, nat_le, length, codes, if◌then◌else◌}
use Rattle.std.specs.List.{filter_map}
use Rattle.std.specs.Str.{bytes_eq}
use Rattle.item_model.specs.declared.property.Property.{Property}
use Rattle.item_model.specs.declared.request.Meta.{Meta}
use Rattle.item_model.specs.declared.request.Meta.TheVariants.{Default, All, Names}
use Rattle.item_model.specs.Limits.{names_limit}
use Rattle.item_model.specs.Properties.{property_name, property_named}
use Rattle.item_model.specs.Projection.{first_mentions, new_mention}

-- the first part with these bytes before it
abbrev pub onto : List ℕ → List (List ℕ) → List (List ℕ)
onto front [] = front ∷ []
onto front (part ∷ parts) = (front ++ part) ∷ parts

-- the parts between commas, one more than there are commas
abbrev pub parts : List ℕ → List (List ℕ)
parts [] = [] ∷ []
parts (c ∷ cs) = if c == 44 then [] ∷ parts cs else onto (c ∷ []) (parts cs)

-- the known ones of the names, each once
abbrev pub named : List (List ℕ) → List Property
named names = first_mentions (filter_map property_named names)

-- what a text requests, whatever the number of its names
abbrev pub asked_by : List ℕ → Meta
asked_by text =
    if length text == 0 then Default
    else if bytes_eq text (codes "all") then All
    else Names (named (parts text))

-- what a text requests, or None if it has too many names
abbrev pub meta_of : List ℕ → Option Meta
meta_of text = if nat_le (length (parts text)) names_limit then Some (asked_by text) else None

-- the names of further properties, each after a comma
abbrev pub more_names : List Property → List ℕ
more_names [] = []
more_names (p ∷ ps) = 44 ∷ (property_name p ++ more_names ps)

-- names with commas between them; for no name a single comma, between two empty names
abbrev pub names_text : List Property → List ℕ
names_text [] = codes ","
names_text (p ∷ ps) = property_name p ++ more_names ps

-- the text that requests it
abbrev pub meta_text : Meta → List ℕ
meta_text Default = []
meta_text All = codes "all"
meta_text (Names ps) = names_text ps

-- the parts after a comma, or none if there is no comma
abbrev pub parts_behind : Option (List ℕ) → List (List ℕ)
parts_behind None = []
parts_behind (Some text) = parts text

-- properties and that of a further name, if it has one that is new
abbrev pub with_known : List Property → Option Property → List Property
with_known ps None = ps
with_known ps (Some p) = ps ++ new_mention ps p

-- properties with those of further names
abbrev pub with_names : List Property → List (List ℕ) → List Property
with_names ps [] = ps
with_names ps (name ∷ names) = with_names (with_known ps (property_named name)) names
