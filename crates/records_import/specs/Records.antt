-- Records as edits. A record's error is that of its first malformed column, and that of records is the first record's.
use Rattle.std.specs.Prelude.{◌≡◌, ℕ, suc, ◌+◌, List, [], ◌∷◌, length, drop, get_or, codes, Bool, true, false, nat_lt, ◌==◌, Option, Some, None, Result, Ok, Err, ◌⊎◌, if◌then◌else◌}
use Rattle.std.specs.Str.{bytes_eq}
use Rattle.std.specs.Str.Parse.{digits_value}
use Rattle.item_model.specs.Items.{value_of, with_value}
use Rattle.item_model.specs.declared.changes.Edit.{Edit}
use Rattle.item_model.specs.declared.changes.Edit.TheVariants as an_edit
use Rattle.item_model.specs.declared.item.PropValue.{PropValue}
use Rattle.item_model.specs.declared.item.PropValue.TheVariants as value
use Rattle.item_model.specs.declared.property.Property.{Property}
use Rattle.item_model.specs.declared.property.Property.TheVariants.{Minm}
use Rattle.item_model.specs.declared.query.Query.{Query}
use Rattle.item_model.specs.declared.refusal.RecordWhy.{RecordWhy}
use Rattle.item_model.specs.declared.refusal.RecordWhy.TheVariants as reason
use Rattle.records_import.specs.Actions.{put_of_kind, drop_of_kind, least_id, lacks}
use Rattle.records_import.specs.Columns.{has_column, is_same_column, header_of}
use Rattle.records_import.specs.Rules.{RuleReads}
use Rattle.records_import.specs.Table.{Cells}
use Rattle.records_import.specs.Values.{CellFlaw, id_in, property_in}
use Rattle.records_import.specs.declared.action.Action.{Action}
use Rattle.records_import.specs.declared.action.Action.TheVariants as does
use Rattle.records_import.specs.Limits.{most_records}
use Rattle.records_import.specs.declared.header.Column.{Column}
use Rattle.records_import.specs.declared.header.Column.TheVariants as holds
use Rattle.records_import.specs.declared.refusal.RecordError.{RecordError}
use Rattle.records_import.specs.declared.refusal.RecordError.TheVariants.{Field, Length, TooMany}

-- the cell in a column, or an empty one if the header lacks the column; no column occurs twice
abbrev pub cell_under : Column → List Column → Cells → List ℕ
cell_under column [] cells = []
cell_under column (c ∷ columns) [] = []
cell_under column (c ∷ columns) (cell ∷ cells) =
    if has_column column columns then cell_under column columns cells
    else if is_same_column column c then cell
    else []

abbrev pub number_under : Column → List Column → Cells → ℕ
number_under column columns cells = digits_value 10 (cell_under column columns cells)

abbrev pub Properties : Type 0
Properties = List (Property × PropValue)

abbrev pub with_property : Property → Result PropValue RecordWhy → Properties → Properties
with_property p (Ok v) properties = with_value p v properties
with_property p (Err why) properties = properties

-- an empty cell sets nothing
abbrev pub with_cell : Column → List ℕ → Properties → Properties
with_cell (holds.Property p) [] properties = properties
with_cell (holds.Property p) (b ∷ bytes) properties = with_property p (property_in p (b ∷ bytes)) properties
with_cell holds.Query cell properties = properties
with_cell holds.List cell properties = properties
with_cell holds.Item cell properties = properties

abbrev pub with_cells : Properties → List Column → Cells → Properties
with_cells properties [] cells = properties
with_cells properties (c ∷ columns) [] = properties
with_cells properties (c ∷ columns) (cell ∷ cells) = with_cells (with_cell c cell properties) columns cells

-- the properties that the cells set
abbrev pub properties_of : List Column → Cells → Properties
properties_of columns cells = with_cells [] columns cells

abbrev pub name_text : Option PropValue → List ℕ
name_text (Some (value.Text name)) = name
name_text (Some (value.Number n)) = []
name_text None = []

-- the name among properties, or an empty one
abbrev pub name_in : Properties → List ℕ
name_in properties = name_text (value_of Minm properties)

-- the edit of a record, by its action, its id, and the cells in its further columns
abbrev pub EditIs : Action → ℕ → List Column → Cells → Edit → Type 0
EditIs does.PutItem id columns cells edit = edit ≡ an_edit.PutItem (record { id = id; item = properties_of columns cells })
EditIs does.DropItem id columns cells edit = edit ≡ an_edit.DropItem id
EditIs does.PutList id columns cells edit = edit ≡ an_edit.PutList id (name_in (properties_of columns cells))
EditIs does.PutRule id columns cells edit =
    (rule : Query) × RuleReads (cell_under holds.Query columns cells) (Ok rule) × (edit ≡ an_edit.PutRule id (name_in (properties_of columns cells)) rule)
EditIs does.DropList id columns cells edit = edit ≡ an_edit.DropList id
EditIs does.PutMember id columns cells edit =
    edit ≡ an_edit.PutMember (number_under holds.List columns cells) id (number_under holds.Item columns cells)
EditIs does.DropMember id columns cells edit = edit ≡ an_edit.DropMember (number_under holds.List columns cells) id

-- no cell is malformed
abbrev pub AreSound : Action → List Column → Cells → Type 0
AreSound action [] cells = Unit {0}
AreSound action (c ∷ columns) [] = ⊥
AreSound action (c ∷ columns) (cell ∷ cells) = CellFlaw action c cell None × AreSound action columns cells

-- the error is that of the leftmost malformed cell, whose column is counted from `place`
abbrev pub IsLeftmost : Action → ℕ → ℕ → List Column → Cells → RecordError → Type 0
IsLeftmost action row place [] cells fault = ⊥
IsLeftmost action row place (c ∷ columns) [] fault = ⊥
IsLeftmost action row place (c ∷ columns) (cell ∷ cells) fault =
    ((why : RecordWhy) × CellFlaw action c cell (Some why) × (fault ≡ Field row place why))
    ⊎ (CellFlaw action c cell None × IsLeftmost action row (suc place) columns cells fault)

-- the result of the further cells; a needed column that the header lacks is missing after the last one
abbrev pub FurtherAnswer : Action → ℕ → ℕ → List Column → Cells → Result Edit RecordError → Type 0
FurtherAnswer action row id columns cells (Ok edit) =
    AreSound action columns cells × (lacks action columns ≡ false) × EditIs action id columns cells edit
FurtherAnswer action row id columns cells (Err fault) =
    IsLeftmost action row 4 columns cells fault
    ⊎ (AreSound action columns cells × (lacks action columns ≡ true) × (fault ≡ Field row (length columns + 4) reason.Missing))

abbrev pub or_fault : {A : Type 0} → RecordError → Option A → Result A RecordError
or_fault fault None = Err fault
or_fault fault (Some x) = Ok x

-- the action of a record, by its first two cells
abbrev pub action_of : ℕ → List ℕ → List ℕ → Result Action RecordError
action_of row op kind =
    if bytes_eq op (codes "put") then or_fault (Field row 2 reason.Kind) (put_of_kind kind)
    else if bytes_eq op (codes "drop") then or_fault (Field row 2 reason.Kind) (drop_of_kind kind)
    else Err (Field row 1 reason.Op)

abbrev pub WithId : Action → ℕ → List Column → Cells → Result ℕ RecordWhy → Result Edit RecordError → Type 0
WithId action row columns cells (Ok id) answer = FurtherAnswer action row id columns cells answer
WithId action row columns cells (Err why) answer = answer ≡ Err (Field row 3 why)

abbrev pub WithAction : ℕ → List Column → Cells → Result Action RecordError → Result Edit RecordError → Type 0
WithAction row columns cells (Ok action) answer = WithId action row columns (drop 3 cells) (id_in (least_id action) (get_or cells 2 [])) answer
WithAction row columns cells (Err fault) answer = answer ≡ Err fault

abbrev pub OfLength : Bool → ℕ → List Column → Cells → Result Edit RecordError → Type 0
OfLength true row columns cells answer = WithAction row columns cells (action_of row (get_or cells 0 []) (get_or cells 1 [])) answer
OfLength false row columns cells answer = answer ≡ Err (Length row)

abbrev pub WithinBatch : Bool → ℕ → List Column → Cells → Result Edit RecordError → Type 0
WithinBatch true row columns cells answer = OfLength (length cells == length columns + 3) row columns cells answer
WithinBatch false row columns cells answer = answer ≡ Err (TooMany row)

-- the result of the record with this number, from 1: its edit, or its error
abbrev pub RecordAnswers : List Column → ℕ → Cells → Result Edit RecordError → Type 0
RecordAnswers columns row cells answer = WithinBatch (nat_lt row (suc most_records)) row columns cells answer

-- the result of records, numbered from `row`: the edits of all, or the error of the first malformed one
abbrev pub RecordsAnswer : List Column → ℕ → List Cells → Result (List Edit) RecordError → Type 0
RecordsAnswer columns row [] (Ok edits) = edits ≡ []
RecordsAnswer columns row [] (Err fault) = ⊥
RecordsAnswer columns row (cells ∷ records) (Ok edits) =
    (edit : Edit) × (rest : List Edit) × RecordAnswers columns row cells (Ok edit)
    × RecordsAnswer columns (suc row) records (Ok rest) × (edits ≡ edit ∷ rest)
RecordsAnswer columns row (cells ∷ records) (Err fault) =
    RecordAnswers columns row cells (Err fault)
    ⊎ ((edit : Edit) × RecordAnswers columns row cells (Ok edit) × RecordsAnswer columns (suc row) records (Err fault))

abbrev pub UnderHeader : Result (List Column) RecordError → List Cells → Result (List Edit) RecordError → Type 0
UnderHeader (Ok columns) records answer = RecordsAnswer columns 1 records answer
UnderHeader (Err fault) records answer = answer ≡ Err fault

-- the result of a text's rows: without rows the empty batch, otherwise the first row is the header
unfoldable pub BatchReads : List Cells → Result (List Edit) RecordError → Type 0
BatchReads [] answer = answer ≡ Ok []
BatchReads (header ∷ records) answer = UnderHeader (header_of header) records answer
