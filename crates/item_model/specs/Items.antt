-- An item: properties with their values, in the order of listings, each property at most once.
use Rattle.std.specs.Prelude.{◌≡◌, ◌<◌, ◌≤◌, slice_set, false, ℕ, List, [], ◌∷◌, ◌+◌, ◌^◌, Option, Some, None, Bool, true, ◌&&◌, nat_lt, nat_le, length, if◌then◌else◌}
use Rattle.std.specs.List.{AllByRecursion, insert}
use Rattle.std.specs.Str.{is_utf8}
use Rattle.dmap_tags.specs.declared.kinds.Kind.{Kind}
use Rattle.dmap_tags.specs.declared.kinds.Kind.TheVariants.{U8, I8, U16, I16, U32, I32, U64, I64, Text, Date, Version, List as Members, Opaque}
use Rattle.item_model.specs.declared.property.Property.{Property}
use Rattle.item_model.specs.declared.item.PropValue.{PropValue}
use Rattle.item_model.specs.declared.item.PropValue.TheVariants.{Number, Text as Words}
use Rattle.item_model.specs.Limits.{text_limit}
use Rattle.item_model.specs.Properties.{rank_of, is_same, property_kind}

-- how many numbers there are of a kind, from 0; a kind that is not a number has none
abbrev pub numbers_of : Kind → ℕ
numbers_of U8 = 2 ^ 8
numbers_of U16 = 2 ^ 16
numbers_of U32 = 2 ^ 32
numbers_of U64 = 2 ^ 64
numbers_of Date = 2 ^ 32
numbers_of I8 = 0
numbers_of I16 = 0
numbers_of I32 = 0
numbers_of I64 = 0
numbers_of Text = 0
numbers_of Version = 0
numbers_of Members = 0
numbers_of Opaque = 0

-- whether a text of this kind may have these bytes: they are neither empty nor too long
abbrev pub is_text_of : Kind → List ℕ → Bool
is_text_of Text bytes = nat_lt 0 (length bytes) && nat_le (length bytes) text_limit
is_text_of U8 bytes = false
is_text_of U16 bytes = false
is_text_of U32 bytes = false
is_text_of U64 bytes = false
is_text_of Date bytes = false
is_text_of I8 bytes = false
is_text_of I16 bytes = false
is_text_of I32 bytes = false
is_text_of I64 bytes = false
is_text_of Version bytes = false
is_text_of Members bytes = false
is_text_of Opaque bytes = false

-- a number or a text of the kind
abbrev pub is_of_kind : Kind → PropValue → Bool
is_of_kind kind (Number n) = nat_lt n (numbers_of kind)
is_of_kind kind (Words bytes) = is_text_of kind bytes

-- the value is of the property's kind and range
abbrev pub is_value_of : Property → PropValue → Bool
is_value_of p v = is_of_kind (property_kind p) v

-- the ranks ascend from n, and each value is of its property
abbrev pub rises_from : ℕ → List (Property × PropValue) → Bool
rises_from n [] = true
rises_from n (e ∷ entries) = nat_le n (rank_of e.0) && (is_value_of e.0 e.1 && rises_from (rank_of e.0 + 1) entries)

abbrev pub is_item : List (Property × PropValue) → Bool
is_item entries = rises_from 0 entries

-- a text is UTF-8
abbrev pub IsText : PropValue → Type 0
IsText (Number n) = Unit {0}
IsText (Words bytes) = is_utf8 bytes ≡ true

abbrev pub AreTexts : List (Property × PropValue) → Type 0
AreTexts entries = AllByRecursion (λ e. IsText e.1) entries

-- the value of a property, or None if the item lacks it
abbrev pub value_of : Property → List (Property × PropValue) → Option PropValue
value_of p [] = None
value_of p (e ∷ entries) = if is_same e.0 p then Some e.1 else value_of p entries

-- the item with the property set
abbrev pub with_value : Property → PropValue → List (Property × PropValue) → List (Property × PropValue)
with_value p v [] = (p, v) ∷ []
with_value p v (e ∷ entries) =
    if nat_lt (rank_of e.0) (rank_of p) then e ∷ with_value p v entries
    else if is_same e.0 p then (p, v) ∷ entries
    else (p, v) ∷ e ∷ entries

-- the property has an entry at this index, which a new value replaces
pub record Replaces (p : Property) (entries : List (Property × PropValue)) (place : ℕ) : Type 0 where
  pub within : place < length entries
  pub set : (v : PropValue) → slice_set entries place (p, v) ≡ with_value p v entries

-- no entry is of the property, and one is inserted at this index
pub record ComesIn (p : Property) (entries : List (Property × PropValue)) (place : ℕ) : Type 0 where
  pub within : place ≤ length entries
  pub set : (v : PropValue) → insert entries place (p, v) ≡ with_value p v entries
