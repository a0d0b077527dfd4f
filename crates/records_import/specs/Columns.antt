-- The columns of records. The first three have the operation, the kind of thing, and an id. Each further one has the
-- name of its content, and no two have the same.
use Rattle.std.specs.Prelude.{ℕ, suc, List, [], ◌∷◌, ◌++◌, drop, codes, get_or, Bool, true, false, Option, Some, None, option_map, Result, Ok, Err, if◌then◌else◌}
use Rattle.std.specs.List.{list_any}
use Rattle.std.specs.Str.{bytes_eq}
use Rattle.item_model.specs.Properties.{is_same, property_named}
use Rattle.records_import.specs.Table.{Cells}
use Rattle.records_import.specs.declared.header.Column.{Column}
use Rattle.records_import.specs.declared.header.Column.TheVariants as holds
use Rattle.records_import.specs.declared.refusal.RecordError.{RecordError}
use Rattle.records_import.specs.declared.refusal.RecordError.TheVariants.{Header}

-- the column with a name, or None
abbrev pub column_named : List ℕ → Option Column
column_named name =
    if bytes_eq name (codes "query") then Some holds.Query
    else if bytes_eq name (codes "list") then Some holds.List
    else if bytes_eq name (codes "item") then Some holds.Item
    else option_map (λ p. holds.Property p) (property_named name)

abbrev pub is_same_column : Column → Column → Bool
is_same_column (holds.Property p) (holds.Property q) = is_same p q
is_same_column holds.Query holds.Query = true
is_same_column holds.List holds.List = true
is_same_column holds.Item holds.Item = true
is_same_column _ _ = false

abbrev pub has_column : Column → List Column → Bool
has_column column columns = list_any (is_same_column column) columns

-- a column, unless it is among the earlier ones
abbrev pub unless_known : List Column → Option Column → Option Column
unless_known known None = None
unless_known known (Some column) = if has_column column known then None else Some column

-- the columns of further names, after the known ones; the error is at the first name, by its number from 1, that
-- is not a new column's
abbrev pub columns_of : ℕ → List Column → Cells → Result (List Column) RecordError
columns_of place known [] = Ok known
columns_of place known (name ∷ names) = elim (unless_known known (column_named name)) [
  | None ↦ Err (Header place)
  | Some column ↦ columns_of (suc place) (known ++ column ∷ []) names
]

abbrev pub is_named : Cells → ℕ → List ℕ → Bool
is_named cells place name = bytes_eq (get_or cells place []) name

-- the columns of a header, after the first three
abbrev pub header_of : Cells → Result (List Column) RecordError
header_of cells =
    if is_named cells 0 (codes "op") then (
    if is_named cells 1 (codes "kind") then (
    if is_named cells 2 (codes "id") then columns_of 4 [] (drop 3 cells)
    else Err (Header 3))
    else Err (Header 2))
    else Err (Header 1)
