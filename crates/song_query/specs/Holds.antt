-- Which rows match a query: a condition depends on the property with its name, an `And` matches if all its members
-- do, an `Or` if one does.
use Rattle.std.specs.Prelude.{ℕ, List, [], ◌∷◌, ◌+◌, ◌-◌, ◌*◌, ◌^◌, Option, Some, None, Bool, true, false, not, ◌&&◌, ◌||◌, ◌==◌, nat_lt, unwrap_or, codes, if◌then◌else◌}
use Rattle.std.specs.Char.{is_ascii_digit}
use Rattle.std.specs.Str.{bytes_eq}
use Rattle.dmap_tags.specs.declared.kinds.Kind.{Kind}
use Rattle.dmap_tags.specs.declared.kinds.Kind.TheVariants.{Text as TextKind}
use Rattle.item_model.specs.Properties.{property_kind, property_named}
use Rattle.item_model.specs.Items.{value_of}
use Rattle.item_model.specs.QueryTree.{QueryTree, condition, and_of, or_of, QueryTrees, no_queries, more_queries}
use Rattle.item_model.specs.declared.condition.Cond.{Cond}
use Rattle.item_model.specs.declared.condition.Op.{Op}
use Rattle.item_model.specs.declared.condition.Op.TheVariants.{Is, IsNot, Less, More}
use Rattle.item_model.specs.declared.property.Property.{Property}
use Rattle.item_model.specs.declared.item.PropValue.{PropValue}
use Rattle.item_model.specs.declared.item.PropValue.TheVariants.{Number, Text}
use Rattle.item_model.specs.declared.item.Row.{Row}
use Rattle.song_query.specs.Glob.{glob}

-- the value of a property that a row lacks
abbrev pub absent : Kind → PropValue
absent TextKind = Text []
absent _ = Number 0

abbrev pub property_value : Option Property → List (Property × PropValue) → PropValue
property_value None entries = Text []
property_value (Some p) entries = unwrap_or (value_of p entries) (absent (property_kind p))

-- the value of a name in a row: the id, the value of the property with that name, or an empty text
unfoldable pub named_value : List ℕ → Row → PropValue
named_value name row =
    if bytes_eq name (codes "dmap.itemid") then Number row.id else property_value (property_named name) row.item

-- the number n followed by more decimal digits
abbrev pub number_from : ℕ → List ℕ → ℕ
number_from n [] = n
number_from n (c ∷ cs) = number_from (n * 10 + (c - 48)) cs

abbrev pub are_digits : List ℕ → Bool
are_digits [] = true
are_digits (c ∷ cs) = is_ascii_digit c && are_digits cs

-- the number of one or more digits, if it fits 64 bits
abbrev pub number_of : List ℕ → Option ℕ
number_of [] = None
number_of (c ∷ cs) =
    if are_digits (c ∷ cs) && nat_lt (number_from 0 (c ∷ cs)) (2 ^ 64) then Some (number_from 0 (c ∷ cs)) else None

-- the number in a pattern, if there is no wildcard
abbrev pub number_asked : List (List ℕ) → Option ℕ
number_asked [] = None
number_asked (p ∷ []) = number_of p
number_asked (p ∷ q ∷ ps) = None

abbrev pub is_number : Option ℕ → ℕ → Bool
is_number None n = false
is_number (Some m) n = m == n

abbrev pub is_below : Option ℕ → ℕ → Bool
is_below None n = false
is_below (Some m) n = nat_lt n m

abbrev pub is_above : Option ℕ → ℕ → Bool
is_above None n = false
is_above (Some m) n = nat_lt m n

-- a text matches if the pattern matches it, a number if it is the pattern's
unfoldable pub matches_value : List (List ℕ) → PropValue → Bool
matches_value pieces (Text bytes) = glob pieces bytes
matches_value pieces (Number n) = is_number (number_asked pieces) n

-- only numbers are less or more
unfoldable pub is_less : List (List ℕ) → PropValue → Bool
is_less pieces (Text bytes) = false
is_less pieces (Number n) = is_below (number_asked pieces) n

unfoldable pub is_more : List (List ℕ) → PropValue → Bool
is_more pieces (Text bytes) = false
is_more pieces (Number n) = is_above (number_asked pieces) n

abbrev pub is_met : Op → List (List ℕ) → PropValue → Bool
is_met Is pieces v = matches_value pieces v
is_met IsNot pieces v = not (matches_value pieces v)
is_met Less pieces v = is_less pieces v
is_met More pieces v = is_more pieces v

abbrev pub meets : Cond → Row → Bool
meets c row = is_met c.op c.pattern (named_value c.name row)

abbrev mutual
  pub holds : QueryTree → Row → Bool
  holds (condition c) row = meets c row
  holds (and_of qs) row = all_hold qs row
  holds (or_of qs) row = some_hold qs row

  pub all_hold : QueryTrees → Row → Bool
  all_hold no_queries row = true
  all_hold (more_queries q qs) row = holds q row && all_hold qs row

  pub some_hold : QueryTrees → Row → Bool
  some_hold no_queries row = false
  some_hold (more_queries q qs) row = holds q row || some_hold qs row
