-- The texts by which the rows of a turn are found, and what a turn changes under a text.
use Rattle.std.specs.Prelude.{◌≡◌, ℕ, List, [], ⊤, true, Bool, not, ◌&&◌, ◌==◌, Option, Some, None, option_copied}
use Rattle.std.specs.List.{AllByRecursion}
use Rattle.std.specs.Str.{bytes_eq}
use Rattle.item_model.specs.declared.item.Row.{Row}
use Rattle.item_model.specs.declared.request.Browse.{Browse}
use Rattle.item_model.specs.Items.{value_of}
use Rattle.share_history.specs.BrowseListings.{browsed}
use Rattle.prop_index.specs.declared.keys.AnyCase.{AnyCase}
use Rattle.prop_index.specs.declared.keys.AnyCase.TheVariants.{Kept, Lowered}
use Rattle.prop_index.specs.declared.keys.Forms.{Forms}
use Rattle.prop_index.specs.declared.changes.Turn.{Turn}
use Rattle.prop_index.specs.Ids.{hits}
use Rattle.prop_index.specs.Forms.{Form, spelled, any_case, key_of, is_textual}

abbrev pub text_held : AnyCase → List ℕ
text_held (Kept text) = text.now
text_held (Lowered text) = text

abbrev pub form_in : Forms → Form → List ℕ
form_in forms spelled = forms.spelled.now
form_in forms any_case = text_held forms.any_case

-- a row that is not there has no texts
abbrev pub key_or_none : Form → Browse → Option Row → List ℕ
key_or_none form browse None = []
key_or_none form browse (Some row) = key_of form browse row

abbrev pub IsTextAt : Browse → Option Row → Type 0
IsTextAt browse None = ⊤
IsTextAt browse (Some row) = is_textual (value_of (browsed browse) row.item) ≡ true

-- the properties by which libraries are browsed are texts in a row, if there is one
abbrev pub HasTextsIfAny : Option Row → Type 0
HasTextsIfAny row = (browse : Browse) → IsTextAt browse row

-- the same of the new row of each turn
abbrev pub HaveTexts : List (ℕ × Turn) → Type 0
HaveTexts turns = AllByRecursion (λ turn. HasTextsIfAny (option_copied turn.1.new)) turns

abbrev pub old_key : Form → Browse → Turn → List ℕ
old_key form browse turn = key_or_none form browse (option_copied turn.old)

abbrev pub new_key : Form → Browse → Turn → List ℕ
new_key form browse turn = key_or_none form browse (option_copied turn.new)

-- whether a turn puts the id under the text
abbrev pub brings : Browse → Form → List ℕ → ℕ → ℕ × Turn → Bool
brings browse form text id turn = hits (new_key form browse turn.1) turn.0 text id

-- whether the id is no longer found by the text
abbrev pub leaves : Browse → Form → List ℕ → ℕ → ℕ × Turn → Bool
leaves browse form text id turn =
    (bytes_eq (old_key form browse turn.1) text && (id == turn.0)) && not (bytes_eq (new_key form browse turn.1) text)

-- whether the id was not found by the text before
abbrev pub gives_back : Browse → Form → List ℕ → ℕ → ℕ × Turn → Bool
gives_back browse form text id turn =
    (bytes_eq (new_key form browse turn.1) text && (id == turn.0)) && not (bytes_eq (old_key form browse turn.1) text)
