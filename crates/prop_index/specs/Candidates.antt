-- The items that may meet a query. A condition that asks one of the properties by which libraries are browsed for one text,
-- without a wildcard, is met by the items whose value matches it. An `And` with such a member is met by no others.
use Rattle.std.specs.Prelude.{ℕ, List, [], ◌∷◌, ◌&&◌, filter, Bool, true, false, Option, Some, None, option_map, option_and_then, if◌then◌else◌}
use Rattle.std.specs.Option.{option_or}
use Rattle.std.specs.Map.{keys_of}
use Rattle.item_model.specs.declared.item.Row.{Row}
use Rattle.item_model.specs.declared.condition.Cond.{Cond}
use Rattle.item_model.specs.declared.condition.Op.{Op}
use Rattle.item_model.specs.declared.condition.Op.TheVariants.{Is, IsNot, Less, More}
use Rattle.item_model.specs.declared.property.Property.{Property}
use Rattle.item_model.specs.declared.property.Property.TheVariants.{Asar, Asal, Asgn, Ascp}
use Rattle.item_model.specs.declared.request.Browse.{Browse}
use Rattle.item_model.specs.declared.request.Browse.TheVariants.{Artists, Albums, Genres, Composers}
use Rattle.item_model.specs.Properties.{property_named}
use Rattle.item_model.specs.QueryTree.{QueryTree, condition, and_of, or_of, QueryTrees, no_queries, more_queries}
use Rattle.song_query.specs.Holds.{matches_value, property_value}
use Rattle.share_history.specs.BrowseListings.{browsed, is_filled}

abbrev pub browse_of : Property → Option Browse
browse_of Asar = Some Artists
browse_of Asal = Some Albums
browse_of Asgn = Some Genres
browse_of Ascp = Some Composers
browse_of _ = None

abbrev pub is_positive : Op → Bool
is_positive Is = true
is_positive IsNot = false
is_positive Less = false
is_positive More = false

-- the one piece of a pattern without a wildcard
abbrev pub only_piece : List (List ℕ) → List ℕ
only_piece [] = []
only_piece (piece ∷ []) = piece
only_piece (piece ∷ next ∷ pieces) = []

-- the text that a condition asks for, and where
abbrev pub text_asked : Cond → Option (Browse × List ℕ)
text_asked c =
    if is_positive c.op && is_filled (only_piece c.pattern)
    then option_map (λ browse. (browse, only_piece c.pattern)) (option_and_then browse_of (property_named c.name))
    else None

-- the same of a query that is a condition
abbrev pub text_of_condition : QueryTree → Option (Browse × List ℕ)
text_of_condition (condition c) = text_asked c
text_of_condition (and_of qs) = None
text_of_condition (or_of qs) = None

-- the first such text
abbrev pub first_text : QueryTrees → Option (Browse × List ℕ)
first_text no_queries = None
first_text (more_queries q qs) = option_or (text_of_condition q) (first_text qs)

-- the text without which a query is not met
abbrev pub needed_text : QueryTree → Option (Browse × List ℕ)
needed_text (condition c) = text_asked c
needed_text (and_of qs) = first_text qs
needed_text (or_of qs) = None

-- whether an item's value of the property matches the text
abbrev pub is_candidate : Browse × List ℕ → Row → Bool
is_candidate (browse, text) row = matches_value (text ∷ []) (property_value (Some (browsed browse)) row.item)

-- the ids of the items that may meet a query, where it needs a text
abbrev pub candidates_in : QueryTree → List (ℕ × Row) → Option (List ℕ)
candidates_in query rows = option_map (λ text. keys_of (filter (λ row. is_candidate text row.1) rows)) (needed_text query)
