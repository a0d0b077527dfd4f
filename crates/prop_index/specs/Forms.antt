-- The texts by which an item is found: for each property by which libraries are browsed, its text as it is spelled, and the
-- same with its letters folded as queries fold them. Nothing is found by an empty text.
use Rattle.std.specs.Prelude.{◌≡◌, ℕ, List, Bool, true, false, ◌&&◌, Option, Some, None}
use Rattle.std.specs.Str.{bytes_eq}
use Rattle.item_model.specs.declared.item.Row.{Row}
use Rattle.item_model.specs.declared.item.PropValue.{PropValue}
use Rattle.item_model.specs.declared.item.PropValue.TheVariants.{Number, Text}
use Rattle.item_model.specs.declared.request.Browse.{Browse}
use Rattle.item_model.specs.Items.{value_of}
use Rattle.item_model.specs.Folding.{folded}
use Rattle.share_history.specs.BrowseListings.{browsed, text_in, is_filled}

pub data Form : Type 0 where
  spelled : Form
  any_case : Form

abbrev pub in_form : Form → List ℕ → List ℕ
in_form spelled text = text
in_form any_case text = folded text

-- the text of a property, empty where the item has none
abbrev pub browse_text : Browse → Row → List ℕ
browse_text browse row = text_in (value_of (browsed browse) row.item)

abbrev pub key_of : Form → Browse → Row → List ℕ
key_of form browse row = in_form form (browse_text browse row)

-- whether a text finds the item
abbrev pub finds : Form → Browse → List ℕ → Row → Bool
finds form browse text row = is_filled text && bytes_eq (key_of form browse row) text

-- no value but a text
abbrev pub is_textual : Option PropValue → Bool
is_textual None = true
is_textual (Some (Number n)) = false
is_textual (Some (Text bytes)) = true

-- the properties by which libraries are browsed are texts
abbrev pub HasTexts : Row → Type 0
HasTexts row = (browse : Browse) → is_textual (value_of (browsed browse) row.item) ≡ true
