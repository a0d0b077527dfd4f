-- An edit that was read is not only valid: an item's properties are in order, and some text reads as a rule.
use Rattle.std.proofs.Common.{◌≡◌, ◌∷◌, ◌+◌, ◌==◌, [], ℕ, suc, List, Bool, true, false, nat_lt, Result, Ok, Err, refl, drop, get_or, length}
use Rattle.item_model.specs.Items.{is_item}
use Rattle.item_model.specs.declared.changes.Edit.{Edit}
use Rattle.item_model.specs.declared.changes.Edit.TheVariants.{PutItem, DropItem, PutList, PutRule, DropList, PutMember, DropMember}
use Rattle.item_model.specs.declared.refusal.RecordWhy.{RecordWhy}
use Rattle.records_import.specs.Actions.{least_id}
use Rattle.records_import.specs.Columns.{header_of}
use Rattle.records_import.specs.Records.{BatchReads, EditIs, OfLength, RecordsAnswer, UnderHeader, WithAction, WithId, WithinBatch, action_of, cell_under}
use Rattle.records_import.specs.Rules.{RuleReads}
use Rattle.records_import.specs.Table.{Cells}
use Rattle.records_import.specs.Values.{id_in}
use Rattle.records_import.specs.declared.action.Action.{Action}
use Rattle.records_import.specs.declared.action.Action.TheVariants as does
use Rattle.records_import.specs.Limits.{most_records}
use Rattle.records_import.specs.declared.header.Column.{Column}
use Rattle.records_import.specs.declared.header.Column.TheVariants as holds
use Rattle.records_import.specs.declared.refusal.RecordError.{RecordError}
use Rattle.records_import.proofs.ValidEdits.{cells_item}

abbrev pub IsKept : Edit → Type 0
IsKept (PutItem row) = is_item row.item ≡ true
IsKept (DropItem id) = Unit {0}
IsKept (PutList list name) = Unit {0}
IsKept (PutRule list name rule) = (text : List ℕ) × RuleReads text (Ok rule)
IsKept (DropList list) = Unit {0}
IsKept (PutMember list member item) = Unit {0}
IsKept (DropMember list member) = Unit {0}

abbrev pub AreKept : List Edit → Type 0
AreKept [] = Unit {0}
AreKept (edit ∷ edits) = IsKept edit × AreKept edits

edit_kept : (action : Action) (id : ℕ) (columns : List Column) (cells : Cells) (edit : Edit) → EditIs action id columns cells edit → IsKept edit
edit_kept does.PutItem id columns cells edit e = rw e (cells_item columns cells [] refl)
edit_kept does.DropItem id columns cells edit e = rw e tt
edit_kept does.PutList id columns cells edit e = rw e tt
edit_kept does.PutRule id columns cells edit e = rw e.2 (cell_under holds.Query columns cells, e.1)
edit_kept does.DropList id columns cells edit e = rw e tt
edit_kept does.PutMember id columns cells edit e = rw e tt
edit_kept does.DropMember id columns cells edit e = rw e tt

id_kept : (action : Action) (row : ℕ) (columns : List Column) (cells : Cells) (r : Result ℕ RecordWhy) (edit : Edit) → WithId action row columns cells r (Ok edit) → IsKept edit
id_kept action row columns cells (Ok id) edit h = edit_kept action id columns cells edit h.2
id_kept action row columns cells (Err why) edit h = absurd (cc h)

action_kept : (row : ℕ) (columns : List Column) (cells : Cells) (r : Result Action RecordError) (edit : Edit) → WithAction row columns cells r (Ok edit) → IsKept edit
action_kept row columns cells (Ok action) edit h = id_kept action row columns (drop 3 cells) (id_in (least_id action) (get_or cells 2 [])) edit h
action_kept row columns cells (Err fault) edit h = absurd (cc h)

length_kept : (b : Bool) (row : ℕ) (columns : List Column) (cells : Cells) (edit : Edit) → OfLength b row columns cells (Ok edit) → IsKept edit
length_kept true row columns cells edit h = action_kept row columns cells (action_of row (get_or cells 0 []) (get_or cells 1 [])) edit h
length_kept false row columns cells edit h = absurd (cc h)

within_kept : (b : Bool) (row : ℕ) (columns : List Column) (cells : Cells) (edit : Edit) → WithinBatch b row columns cells (Ok edit) → IsKept edit
within_kept true row columns cells edit h = length_kept (length cells == length columns + 3) row columns cells edit h
within_kept false row columns cells edit h = absurd (cc h)

records_kept : (columns : List Column) (row : ℕ) (records : List Cells) (edits : List Edit) → RecordsAnswer columns row records (Ok edits) → AreKept edits
records_kept columns row [] edits h = rw h tt
records_kept columns row (cells ∷ records) edits h =
    rw h.4 (within_kept (nat_lt row (suc most_records)) row columns cells h.0 h.2, records_kept columns (suc row) records h.1 h.3)

under_kept : (header : Result (List Column) RecordError) (records : List Cells) (edits : List Edit) → UnderHeader header records (Ok edits) → AreKept edits
under_kept (Ok columns) records edits h = records_kept columns 1 records edits h
under_kept (Err fault) records edits h = absurd (cc h)

pub batch_kept : (rows : List Cells) (edits : List Edit) → BatchReads rows (Ok edits) → AreKept edits
unfolding BatchReads
batch_kept [] edits h =
    let none : ◌≡◌ {A = List Edit} edits [] = cc h in
    rw none tt
batch_kept (header ∷ records) edits h = under_kept (header_of header) records edits h
