-- Laws that follow from the definitions.
use Rattle.std.specs.Prelude.{◌≡◌, ◌↔◌, List, [], ◌∷◌, ◌++◌, true, Some, None}
use Rattle.std.specs.List.{AllByRecursion}
use Rattle.item_model.specs.declared.changes.Edit.{Edit}
use Rattle.item_model.specs.declared.changes.Entry.{Entry}
use Rattle.item_model.specs.declared.item.Row.{Row}
use Rattle.item_model.specs.declared.request.Meta.TheVariants.{All}
use Rattle.item_model.specs.declared.request.Target.TheVariants.{Items}
use Rattle.item_model.specs.Items.{is_item}
use Rattle.item_model.specs.Projection.{projection}
use Rattle.item_model.specs.Valid.{AreValid, is_id}
use Rattle.share_history.specs.Histories.{all_edits, batches}
use Rattle.share_history.specs.Listings.{shown_rows}
use Rattle.share_history.specs.Rows.{library}
use Rattle.relayed_rows.specs.ReadRows.{row_of}
use Rattle.relayed_rows.specs.Libraries.{IsLibrary, Library, library_in}
use Rattle.relayed_rows.specs.Differences.{difference, is_same_row}
use Rattle.relayed_rows.specs.Relays.{StandsAt, steps_between}

-- a row that is shown with all properties reads back
abbrev pub RowsReadBack : Type 0
RowsReadBack = (row : Row) → is_item row.item ≡ true → is_id row.id ≡ true → row_of (projection row None All) ≡ Some row

-- and so does a whole library
abbrev pub LibrariesReadBack : Type 0
LibrariesReadBack = (l : Library) → IsLibrary l → library_in (shown_rows Items All l) ≡ l

-- the test is true exactly of equal rows
abbrev pub RowsAreToldApart : Type 0
RowsAreToldApart =
    (a b : Row) → is_item a.item ≡ true → is_id a.id ≡ true → is_item b.item ≡ true → is_id b.id ≡ true → is_same_row a b ≡ true ↔ a ≡ b

-- after the difference to a later library a share has that library
abbrev pub DifferencesApply : Type 0
DifferencesApply = (es : List Edit) (now : Library) → IsLibrary (library es) → IsLibrary now → library (es ++ difference (library es) now) ≡ now

abbrev pub DifferencesAreValid : Type 0
DifferencesAreValid = (before now : Library) → IsLibrary before → IsLibrary now → AreValid (difference before now)

-- the difference of two libraries is empty exactly if they are equal
abbrev pub DifferencesTell : Type 0
DifferencesTell = (before now : Library) → IsLibrary before → IsLibrary now → difference before now ≡ [] ↔ before ≡ now

-- if the batches of a share are the steps from an empty library through some libraries, its library at each length of
-- the history is one of these or empty, and at a later length the same or a later one
abbrev pub RelaysNeverGoBack : Type 0
RelaysNeverGoBack =
    (libraries : List Library) (h front middle rest : List Entry) → AllByRecursion IsLibrary libraries → batches h ≡ steps_between [] libraries
    → h ≡ front ++ (middle ++ rest)
    → (s : StandsAt ([] ∷ libraries) front) × StandsAt (library (all_edits front) ∷ s.ahead) (front ++ middle)
