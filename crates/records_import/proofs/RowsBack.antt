-- The rows that are written for a batch read back as the batch.
use Rattle.std.proofs.Common.{◌≡◌, ◌≤◌, ◌<◌, ◌+◌, ◌^◌, ◌∷◌, ◌∙◌, ◌&&◌, ◌||◌, [], ℕ, zero, suc, List, None, Bool, true, false, nat_le, nat_lt, Ok, IsUtf8, if◌then◌else◌, refl, sym, ap, subst, decimal, map, length, arith}
use Rattle.std.proofs.lemmas.Bool.{and_parts, lt-ltb}
use Rattle.std.specs.Prelude.{All}
use Rattle.std.specs.Str.Parse.{digits_value}
use Rattle.csv.specs.Records.{AllText}
use Rattle.item_model.proofs.Ranks.{same_property}
use Rattle.item_model.specs.Properties.{is_same, property_named}
use Rattle.item_model.specs.QuerySeen.{tree_of}
use Rattle.item_model.specs.Proper.{is_proper}
use Rattle.item_model.specs.Valid.{AreValid, IsValid, is_id, is_list_id, is_list_name}
use Rattle.item_model.specs.declared.changes.Edit.{Edit}
use Rattle.item_model.specs.declared.changes.Edit.TheVariants.{PutItem, DropItem, PutList, PutRule, DropList, PutMember, DropMember}
use Rattle.item_model.specs.declared.property.Property.{Property}
use Rattle.item_model.specs.declared.property.Property.TheVariants.{Minm}
use Rattle.item_model.specs.declared.query.Query.{Query}
use Rattle.records_import.specs.Actions.{lacks, least_id}
use Rattle.records_import.specs.Columns.{header_of}
use Rattle.records_import.specs.Records.{AreSound, BatchReads, EditIs, RecordAnswers, RecordsAnswer, UnderHeader, action_of, name_in, properties_of, with_property}
use Rattle.records_import.specs.Table.{Cells, HasCell, table_of, table_text}
use Rattle.records_import.specs.Values.{CellFlaw, FlawBy, flaw_of, id_in, needed_id, property_flaw}
use Rattle.records_import.specs.Written.{IsReadable, written_cell, written_columns, written_header, written_id, written_kind, written_op, written_row, written_rows}
use Rattle.records_import.specs.declared.action.Action.{Action}
use Rattle.records_import.specs.declared.action.Action.TheVariants as does
use Rattle.records_import.specs.Limits.{most_records}
use Rattle.records_import.specs.declared.header.Column.{Column}
use Rattle.records_import.specs.declared.header.Column.TheVariants as holds
use Rattle.records_import.proofs.CellsBack.{digits_back, id_back, needed_back, text_back}
use Rattle.records_import.proofs.ItemsBack.{item_back, property_sound}
use Rattle.records_import.proofs.Kept.{AreKept, IsKept, batch_kept}
use Rattle.records_import.proofs.ReadBack.{reads_back, unmarked_table}
use Rattle.records_import.proofs.RulesBack.{rule_back, rule_sound}
use Rattle.records_import.proofs.Texts.{AreTexts}
use Rattle.records_import.proofs.ValidEdits.{batch_valid}
use Rattle.records_import.proofs.Walks.{record_answers}

-- the action in the first two cells of an edit's record
abbrev action_for : Edit → Action
action_for (PutItem row) = does.PutItem
action_for (DropItem id) = does.DropItem
action_for (PutList list name) = does.PutList
action_for (PutRule list name rule) = does.PutRule
action_for (DropList list) = does.DropList
action_for (PutMember list member item) = does.PutMember
action_for (DropMember list member) = does.DropMember

action_back : (row : ℕ) (edit : Edit) → action_of row (written_op edit) (written_kind edit) ≡ Ok (action_for edit)
action_back row (PutItem r) = refl
action_back row (DropItem id) = refl
action_back row (PutList list name) = refl
action_back row (PutRule list name rule) = refl
action_back row (DropList list) = refl
action_back row (PutMember list member item) = refl
action_back row (DropMember list member) = refl

-- the id, in the range of its action
edit_id_back : (edit : Edit) → IsValid edit → id_in (least_id (action_for edit)) (decimal (written_id edit)) ≡ Ok (written_id edit)
edit_id_back (PutItem r) valid = id_back 1 r.id valid
edit_id_back (DropItem id) valid = id_back 1 id valid
edit_id_back (PutList list name) valid = id_back 2 list (and_parts (is_list_id list) (is_list_name name) valid).0
edit_id_back (PutRule list name rule) valid = id_back 2 list (and_parts (is_list_id list) (is_list_name name && is_proper (tree_of rule)) valid).0
edit_id_back (DropList list) valid = id_back 2 list valid
edit_id_back (PutMember list member item) valid =
    id_back 1 member (and_parts (is_id member) (is_id item) (and_parts (is_list_id list) (is_id member && is_id item) valid).1).0
edit_id_back (DropMember list member) valid = id_back 1 member (and_parts (is_list_id list) (is_id member) valid).1

-- a list's name
name_flaw : (name : List ℕ) → is_list_name name ≡ true → IsUtf8 name → None ≡ property_flaw Minm name
name_flaw [] short utf8 = refl
name_flaw (b ∷ bytes) short utf8 = rw (text_back (b ∷ bytes) utf8 short) refl

name_sound : (b : Bool) (p : Property) (name : List ℕ) → is_same p Minm ≡ b → is_list_name name ≡ true → IsUtf8 (if b then name else [])
    → FlawBy b (holds.Property p) (if b then name else []) None
name_sound true p name same short utf8 = subst (λ q. None ≡ property_flaw q name) (sym (same_property p Minm same)) (name_flaw name short utf8)
name_sound false p name same short utf8 = refl

rule_name_sound : (b : Bool) (p : Property) (name : List ℕ) → is_same p Minm ≡ b → is_list_name name ≡ true → IsUtf8 (if b then name else [])
    → FlawBy (b || false) (holds.Property p) (if b then name else []) None
rule_name_sound true p name same short utf8 = name_sound true p name same short utf8
rule_name_sound false p name same short utf8 = refl

needed_sound : (least n : ℕ) → (nat_le least n && nat_lt n (2 ^ 32)) ≡ true → None ≡ flaw_of (needed_id least (decimal n))
needed_sound least n h = rw (needed_back least n h) refl

-- no written cell is malformed
cell_sound : (edit : Edit) → IsValid edit → IsKept edit → (c : Column) → IsUtf8 (written_cell edit c) → CellFlaw (action_for edit) c (written_cell edit c) None
cell_sound (PutItem r) valid kept (holds.Property p) utf8 = property_sound r.item kept p utf8
cell_sound (PutItem r) valid kept holds.Query utf8 = refl
cell_sound (PutItem r) valid kept holds.List utf8 = refl
cell_sound (PutItem r) valid kept holds.Item utf8 = refl
cell_sound (DropItem id) valid kept c utf8 = refl
cell_sound (PutList list name) valid kept (holds.Property p) utf8 =
    name_sound (is_same p Minm) p name refl (and_parts (is_list_id list) (is_list_name name) valid).1 utf8
cell_sound (PutList list name) valid kept holds.Query utf8 = refl
cell_sound (PutList list name) valid kept holds.List utf8 = refl
cell_sound (PutList list name) valid kept holds.Item utf8 = refl
cell_sound (PutRule list name rule) valid kept (holds.Property p) utf8 =
    let named = (and_parts (is_list_id list) (is_list_name name && is_proper (tree_of rule)) valid).1 in
    rule_name_sound (is_same p Minm) p name refl (and_parts (is_list_name name) (is_proper (tree_of rule)) named).0 utf8
cell_sound (PutRule list name rule) valid kept holds.Query utf8 = rule_sound rule kept.0 kept.1 utf8
cell_sound (PutRule list name rule) valid kept holds.List utf8 = refl
cell_sound (PutRule list name rule) valid kept holds.Item utf8 = refl
cell_sound (DropList list) valid kept c utf8 = refl
cell_sound (PutMember list member item) valid kept (holds.Property p) utf8 = refl
cell_sound (PutMember list member item) valid kept holds.Query utf8 = refl
cell_sound (PutMember list member item) valid kept holds.List utf8 = needed_sound 2 list (and_parts (is_list_id list) (is_id member && is_id item) valid).0
cell_sound (PutMember list member item) valid kept holds.Item utf8 =
    needed_sound 1 item (and_parts (is_id member) (is_id item) (and_parts (is_list_id list) (is_id member && is_id item) valid).1).1
cell_sound (DropMember list member) valid kept (holds.Property p) utf8 = refl
cell_sound (DropMember list member) valid kept holds.Query utf8 = refl
cell_sound (DropMember list member) valid kept holds.List utf8 = needed_sound 2 list (and_parts (is_list_id list) (is_id member) valid).0
cell_sound (DropMember list member) valid kept holds.Item utf8 = refl

cells_sound : (edit : Edit) → IsValid edit → IsKept edit → (columns : List Column) → AllText (map (written_cell edit) columns)
    → AreSound (action_for edit) columns (map (written_cell edit) columns)
unfolding AllText
cells_sound edit valid kept [] text = tt
cells_sound edit valid kept (c ∷ columns) text = (cell_sound edit valid kept c text.0, cells_sound edit valid kept columns text.1)

-- the further cells of an edit
abbrev written_cells : Edit → Cells
written_cells edit = map (written_cell edit) written_columns

none_lacks : (edit : Edit) → lacks (action_for edit) written_columns ≡ false
none_lacks (PutItem r) = refl
none_lacks (DropItem id) = refl
none_lacks (PutList list name) = refl
none_lacks (PutRule list name rule) = refl
none_lacks (DropList list) = refl
none_lacks (PutMember list member item) = refl
none_lacks (DropMember list member) = refl

-- the name of a list reads back, from the cells of a playlist and from those of a smart playlist
list_name_back : (list : ℕ) (name : List ℕ) → is_list_name name ≡ true → IsUtf8 name → name_in (properties_of written_columns (written_cells (PutList list name))) ≡ name
list_name_back list [] short utf8 = refl
list_name_back list (b ∷ bytes) short utf8 = ap (λ r. name_in (with_property Minm r [])) (text_back (b ∷ bytes) utf8 short)

rule_name_back : (list : ℕ) (name : List ℕ) (rule : Query) → is_list_name name ≡ true → IsUtf8 name
    → name_in (properties_of written_columns (written_cells (PutRule list name rule))) ≡ name
rule_name_back list [] rule short utf8 = refl
rule_name_back list (b ∷ bytes) rule short utf8 = ap (λ r. name_in (with_property Minm r [])) (text_back (b ∷ bytes) utf8 short)

-- the record's edit is the one that was written
edit_back : (edit : Edit) → IsValid edit → IsKept edit → AllText (written_cells edit) → EditIs (action_for edit) (written_id edit) written_columns (written_cells edit) edit
unfolding AllText
edit_back (PutItem r) valid kept text = ap (λ properties. PutItem (record { id = r.id; item = properties })) (sym (item_back r.item kept text))
edit_back (DropItem id) valid kept text = refl
edit_back (PutList list name) valid kept text =
    ap (PutList list) (sym (list_name_back list name (and_parts (is_list_id list) (is_list_name name) valid).1 text.0))
edit_back (PutRule list name rule) valid kept text =
    let named = (and_parts (is_list_id list) (is_list_name name && is_proper (tree_of rule)) valid).1 in (
      rule,
      rule_back rule kept.0 kept.1,
      ap (λ n. PutRule list n rule) (sym (rule_name_back list name rule (and_parts (is_list_name name) (is_proper (tree_of rule)) named).0 text.0)),
    )
edit_back (DropList list) valid kept text = refl
edit_back (PutMember list member item) valid kept text =
    let parts = and_parts (is_list_id list) (is_id member && is_id item) valid in
    ap (λ l. PutMember l member item) (sym (digits_back 2 list parts.0))
    ∙ ap (λ i. PutMember (digits_value 10 (decimal list)) member i) (sym (digits_back 1 item (and_parts (is_id member) (is_id item) parts.1).1))
edit_back (DropMember list member) valid kept text =
    ap (λ l. DropMember l member) (sym (digits_back 2 list (and_parts (is_list_id list) (is_id member) valid).0))

-- a record reads back as its edit
record_back : (row : ℕ) (edit : Edit) → row < suc most_records → IsValid edit → IsKept edit → AllText (written_cells edit)
    → RecordAnswers written_columns row (written_row edit) (Ok edit)
record_back row edit few valid kept text =
    record_answers written_columns row (written_row edit) (action_for edit) (written_id edit) (Ok edit)
    (lt-ltb row (suc most_records) few) refl (action_back row edit) (edit_id_back edit valid)
    (cells_sound edit valid kept written_columns text, none_lacks edit, edit_back edit valid kept text)

records_back : (row : ℕ) (edits : List Edit) → row + length edits ≤ most_records + 1 → AreValid edits → AreKept edits → AreTexts edits
    → RecordsAnswer written_columns row (map written_row edits) (Ok edits)
records_back row [] few valid kept text = refl
records_back row (edit ∷ edits) few valid kept text = (
  edit,
  edits,
  record_back row edit (omega arith) (valid 0 edit (omega arith)) kept.0 text.0,
  records_back (suc row) edits (omega arith) (λ k d below. valid (suc k) d (omega arith)) kept.1 text.1,
  refl,
)

-- the header has the columns that are written
header_back : header_of written_header ≡ Ok written_columns
unfolding property_named
header_back = refl

batch_back : (edits : List Edit) → length edits ≤ most_records → AreValid edits → AreKept edits → AreTexts edits → BatchReads (written_rows edits) (Ok edits)
unfolding BatchReads
batch_back edits few valid kept text =
    subst (λ r. UnderHeader r (map written_row edits) (Ok edits)) (sym header_back) (records_back 1 edits (omega arith) valid kept text)

-- each row has a cell
more_celled : (row : Cells) (rows : List Cells) → HasCell row → All HasCell rows → All HasCell (row ∷ rows)
more_celled row rows first others zero d h = first
more_celled row rows first others (suc k) d h = others k d (omega arith)

all_celled : (edits : List Edit) → All HasCell (map written_row edits)
all_celled [] = λ k d below. absurd (omega arith)
all_celled (edit ∷ edits) = more_celled (written_row edit) (map written_row edits) tt (all_celled edits)

-- so the text of a batch that some text reads as reads as the batch
pub batch_text_back : (edits : List Edit) → IsReadable edits → AreTexts edits → BatchReads (table_of (table_text (written_rows edits))) (Ok edits)
batch_text_back edits readable texts =
    let known = batch_valid (table_of readable.text) edits readable.reads in
    let celled = more_celled written_header (map written_row edits) tt (all_celled edits) in
    let table : table_of (table_text (written_rows edits)) ≡ written_rows edits = reads_back (written_rows edits) celled (unmarked_table 111 _ _ _ refl) in
    subst (λ rows. BatchReads rows (Ok edits)) (sym table) (batch_back edits known.1 known.0 (batch_kept (table_of readable.text) edits readable.reads) texts)
