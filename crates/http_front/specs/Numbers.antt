-- Numbers and ranges in paths and parameters.
use Rattle.std.specs.Prelude.{ℕ, ◌^◌, List, [], ◌∷◌, Bool, ◌==◌, nat_lt, Option, Some, None, option_map, option_and_then, if◌then◌else◌}
use Rattle.std.specs.List.{after_first, before_first, list_any}
use Rattle.item_model.specs.declared.request.Range.{Range}
use Rattle.item_model.specs.declared.request.Range.TheVariants.{All, One, From, Span, Last}
use Rattle.records_import.specs.Number.{number_of}

abbrev pub within_word : Option ℕ → Option ℕ
within_word None = None
within_word (Some n) = if nat_lt n (2 ^ 32) then Some n else None

-- the number that 1 to 10 digits write, if it fits 32 bits
unfoldable pub small_number : List ℕ → Option ℕ
small_number text = within_word (number_of 10 text)

-- a missing number is 0
abbrev pub number_in : Option (List ℕ) → Option ℕ
number_in None = Some 0
number_in (Some text) = small_number text

-- from one row on, or up to another
abbrev pub range_from : ℕ → List ℕ → Option Range
range_from at [] = Some (From at)
range_from at (b ∷ bs) = option_map (λ to. Span at to) (small_number (b ∷ bs))

-- a range with a hyphen, by the text before and after it
abbrev pub hyphen_range : List ℕ → List ℕ → Option Range
hyphen_range [] behind = option_map (λ count. Last count) (small_number behind)
hyphen_range (b ∷ bs) behind = option_and_then (λ at. range_from at behind) (small_number (b ∷ bs))

abbrev pub has_hyphen : List ℕ → Bool
has_hyphen text = list_any (λ b. b == 45) text

-- one row, a span of rows, or the last rows
abbrev pub range_of : List ℕ → Option Range
range_of text =
    if has_hyphen text then hyphen_range (before_first (λ b. b == 45) text) (after_first (λ b. b == 45) text)
    else option_map (λ at. One at) (small_number text)

-- a missing range is all rows
abbrev pub range_in : Option (List ℕ) → Option Range
range_in None = Some All
range_in (Some text) = range_of text
