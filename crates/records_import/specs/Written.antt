-- A batch as records: the rows that are written for it, below a header with all columns.
use Rattle.std.specs.Prelude.{◌≡◌, ℕ, List, [], ◌∷◌, ◌++◌, codes, decimal, map, Option, Some, None, Result, Ok, if◌then◌else◌}
use Rattle.item_model.specs.Items.{value_of}
use Rattle.item_model.specs.Properties.{all_properties, property_name}
use Rattle.item_model.specs.QuerySeen.{tree_of}
use Rattle.item_model.specs.declared.changes.Edit.{Edit}
use Rattle.item_model.specs.declared.changes.Edit.TheVariants.{PutItem, DropItem, PutList, PutRule, DropList, PutMember, DropMember}
use Rattle.item_model.specs.declared.item.PropValue.{PropValue}
use Rattle.item_model.specs.declared.item.PropValue.TheVariants as value
use Rattle.records_import.specs.Actions.{is_item, is_list, is_name, is_rule}
use Rattle.records_import.specs.Records.{BatchReads, Properties}
use Rattle.records_import.specs.Table.{Cells, table_of}
use Rattle.records_import.specs.declared.header.Column.{Column}
use Rattle.records_import.specs.declared.header.Column.TheVariants as holds
use Rattle.records_import.specs.declared.refusal.RecordError.{RecordError}
use Rattle.song_query.specs.Printing.{printed}

-- some text reads as the batch
pub record IsReadable (edits : List Edit) : Type 0 where
  pub text : List ℕ
  pub reads : BatchReads (table_of text) (Ok edits)

-- the rows read as the edits, and have no other result
abbrev pub ReadsOnlyAs : List Cells → List Edit → Type 0
ReadsOnlyAs rows edits = (answer : Result (List Edit) RecordError) → BatchReads rows answer → answer ≡ Ok edits

-- the columns after the first three: all properties in the order of listings, and then those of lists and members
abbrev pub written_columns : List Column
written_columns = map (λ p. holds.Property p) all_properties ++ holds.Query ∷ holds.List ∷ holds.Item ∷ []

abbrev pub column_name : Column → List ℕ
column_name (holds.Property p) = property_name p
column_name holds.Query = codes "query"
column_name holds.List = codes "list"
column_name holds.Item = codes "item"

abbrev pub written_header : Cells
written_header = codes "op" ∷ codes "kind" ∷ codes "id" ∷ map column_name written_columns

-- whether an edit puts or drops, the kind of thing, and its id
abbrev pub written_op : Edit → List ℕ
written_op (PutItem row) = codes "put"
written_op (DropItem id) = codes "drop"
written_op (PutList list name) = codes "put"
written_op (PutRule list name rule) = codes "put"
written_op (DropList list) = codes "drop"
written_op (PutMember list member item) = codes "put"
written_op (DropMember list member) = codes "drop"

abbrev pub written_kind : Edit → List ℕ
written_kind (PutItem row) = codes "item"
written_kind (DropItem id) = codes "item"
written_kind (PutList list name) = codes "list"
written_kind (PutRule list name rule) = codes "rule"
written_kind (DropList list) = codes "list"
written_kind (PutMember list member item) = codes "member"
written_kind (DropMember list member) = codes "member"

abbrev pub written_id : Edit → ℕ
written_id (PutItem row) = row.id
written_id (DropItem id) = id
written_id (PutList list name) = list
written_id (PutRule list name rule) = list
written_id (DropList list) = list
written_id (PutMember list member item) = member
written_id (DropMember list member) = member

-- a number in plain decimal, a text as it is, and an empty cell for no value
abbrev pub value_cell : Option PropValue → List ℕ
value_cell (Some (value.Number n)) = decimal n
value_cell (Some (value.Text text)) = text
value_cell None = []

abbrev pub property_cell : Properties → Column → List ℕ
property_cell properties (holds.Property p) = value_cell (value_of p properties)
property_cell properties holds.Query = []
property_cell properties holds.List = []
property_cell properties holds.Item = []

-- an edit's cell in a column: a rule as its shortest text, and an empty cell in a column that the edit doesn't use
abbrev pub written_cell : Edit → Column → List ℕ
written_cell (PutItem row) column = property_cell row.item column
written_cell (DropItem id) column = []
written_cell (PutList list name) column = if is_name column then name else []
written_cell (PutRule list name rule) column = if is_name column then name else if is_rule column then printed (tree_of rule) else []
written_cell (DropList list) column = []
written_cell (PutMember list member item) column = if is_list column then decimal list else if is_item column then decimal item else []
written_cell (DropMember list member) column = if is_list column then decimal list else []

abbrev pub written_row : Edit → Cells
written_row edit = written_op edit ∷ written_kind edit ∷ decimal (written_id edit) ∷ map (written_cell edit) written_columns

-- the header, and a record for each edit
abbrev pub written_rows : List Edit → List Cells
written_rows edits = written_header ∷ map written_row edits
