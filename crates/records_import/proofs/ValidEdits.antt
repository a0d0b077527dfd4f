-- The edits of records are valid, and not too many.
use Rattle.std.proofs.Common.{◌≡◌, ◌≤◌, ◌<◌, ◌+◌, ◌^◌, ◌∷◌, ◌∙◌, ◌==◌, ◌&&◌, ◌||◌, not, [], ℕ, zero, suc, List, Option, Some, None, Bool, true, false, nat_le, nat_lt, Result, Ok, Err, IfOk, IfSome, refl, sym, subst, inl, inr, length, get_or, drop, arith}
use Rattle.std.proofs.lemmas.Bool.{and_from, and_parts, cases_Bool, lt-ltb, ltb-true}
use Rattle.std.specs.Str.{is_utf8}
use Rattle.std.specs.Str.Parse.{digits_value}
use Rattle.dmap_tags.specs.declared.kinds.Kind.{Kind}
use Rattle.dmap_tags.specs.declared.kinds.Kind.TheVariants as kind
use Rattle.item_model.proofs.Places.{stays_item, value_fits}
use Rattle.item_model.specs.Items.{is_item, is_of_kind, is_value_of, value_of}
use Rattle.item_model.specs.Properties.{property_kind}
use Rattle.item_model.specs.QuerySeen.{tree_of}
use Rattle.item_model.specs.Valid.{AreValid, IsValid, is_id, is_list_id, is_list_name}
use Rattle.item_model.specs.declared.changes.Edit.{Edit}
use Rattle.item_model.specs.declared.item.PropValue.{PropValue}
use Rattle.item_model.specs.declared.item.PropValue.TheVariants.{Number, Text}
use Rattle.item_model.specs.Limits.{text_limit}
use Rattle.item_model.specs.declared.property.Property.{Property}
use Rattle.item_model.specs.declared.property.Property.TheVariants.{Minm}
use Rattle.item_model.specs.declared.refusal.RecordWhy.{RecordWhy}
use Rattle.records_import.specs.Actions.{lacks, least_id, uses}
use Rattle.records_import.specs.Columns.{has_column, header_of, is_same_column}
use Rattle.records_import.specs.Number.{cell_number}
use Rattle.records_import.specs.Records.{AreSound, BatchReads, EditIs, OfLength, Properties, RecordsAnswer, UnderHeader, WithAction, WithId, WithinBatch, action_of, cell_under, name_in, name_text, number_under, properties_of, with_cell, with_cells, with_property}
use Rattle.records_import.specs.Table.{Cells}
use Rattle.records_import.specs.Values.{FlawBy, by_kind, flaw_of, id_from, id_in, needed_id, number_from, property_in, text_in}
use Rattle.records_import.specs.declared.action.Action.{Action}
use Rattle.records_import.specs.declared.action.Action.TheVariants as does
use Rattle.records_import.specs.Limits.{most_records}
use Rattle.records_import.specs.declared.header.Column.{Column}
use Rattle.records_import.specs.declared.header.Column.TheVariants as holds
use Rattle.records_import.specs.declared.refusal.RecordError.{RecordError}
use Rattle.records_import.proofs.Answering.{Told}
use Rattle.song_query.proofs.ReadLaws.{reads_proper}
use Rattle.records_import.proofs.Walks.{entry_used, list_used, number_value}

-- an id in a cell is in its range
ranged : (least : ℕ) (n : Option ℕ) (id : ℕ) → id_from least n ≡ Ok id → (nat_le least id && nat_lt id (2 ^ 32)) ≡ true
ranged least None id h = absurd (cc h)
ranged least (Some n) id h = elim (cases_Bool (nat_le least n && nat_lt n (2 ^ 32))) [
  | inl good ↦
      let e : ◌≡◌ {A = Result ℕ RecordWhy} (Ok n) (Ok id) = rw good at h in
      let same : n ≡ id = cc e in
      rw (← same) good
  | inr bad ↦ absurd (cc (rw bad at h))
]

id_ranged : (least : ℕ) (cell : List ℕ) (id : ℕ) → id_in least cell ≡ Ok id → (nat_le least id && nat_lt id (2 ^ 32)) ≡ true
id_ranged least cell id h = ranged least (cell_number cell) id h

-- and is the number in the cell
numbered : (least : ℕ) (cell : List ℕ) (n : Option ℕ) (id : ℕ) → cell_number cell ≡ n → id_from least n ≡ Ok id → id ≡ digits_value 10 cell
numbered least cell None id e h = absurd (cc h)
numbered least cell (Some n) id e h = elim (cases_Bool (nat_le least n && nat_lt n (2 ^ 32))) [
  | inl good ↦
      let same : ◌≡◌ {A = Result ℕ RecordWhy} (Ok n) (Ok id) = rw good at h in
      let here : n ≡ id = cc same in
      sym here ∙ number_value cell n e
  | inr bad ↦ absurd (cc (rw bad at h))
]

-- a needed id without an error is in its range
needed_by : (least : ℕ) (cell : List ℕ) (r : Result ℕ RecordWhy) → id_in least cell ≡ r → None ≡ flaw_of r
    → (nat_le least (digits_value 10 cell) && nat_lt (digits_value 10 cell) (2 ^ 32)) ≡ true
needed_by least cell (Ok id) e h =
    subst (λ n. (nat_le least n && nat_lt n (2 ^ 32)) ≡ true) (numbered least cell (cell_number cell) id refl e) (id_ranged least cell id e)
needed_by least cell (Err why) e h = absurd (cc h)

needed_ranged : (least : ℕ) (cell : List ℕ) → None ≡ flaw_of (needed_id least cell)
    → (nat_le least (digits_value 10 cell) && nat_lt (digits_value 10 cell) (2 ^ 32)) ≡ true
needed_ranged least [] h = absurd (cc h)
needed_ranged least (b ∷ bytes) h = needed_by least (b ∷ bytes) (id_in least (b ∷ bytes)) refl h

-- the id in the column of a list, if the action uses it
list_step : (has same : Bool) (c : Column) (columns : List Column) (cell : List ℕ) (cells : Cells) (b : Bool)
    → has_column holds.List columns ≡ has → is_same_column holds.List c ≡ same → (same ≡ true → b ≡ true) → FlawBy b c cell None
    → (has ≡ true → is_list_id (number_under holds.List columns cells) ≡ true) → (same || has) ≡ true
    → is_list_id (number_under holds.List (c ∷ columns) (cell ∷ cells)) ≡ true
list_step true true c columns cell cells b has same used flaw ih h = rw has (ih refl)
list_step true false c columns cell cells b has same used flaw ih h = rw has (ih refl)
list_step false false c columns cell cells b has same used flaw ih h = absurd (cc h)
list_step false true (holds.Property p) columns cell cells b has same used flaw ih h = absurd (cc same)
list_step false true holds.Query columns cell cells b has same used flaw ih h = absurd (cc same)
list_step false true holds.Item columns cell cells b has same used flaw ih h = absurd (cc same)
list_step false true holds.List columns cell cells b has same used flaw ih h =
    rw has (needed_ranged 2 cell (subst (λ used. FlawBy used holds.List cell None) (used refl) flaw))

list_ranged : (action : Action) (columns : List Column) (cells : Cells) → uses action holds.List ≡ true → AreSound action columns cells
    → has_column holds.List columns ≡ true → is_list_id (number_under holds.List columns cells) ≡ true
list_ranged action [] cells used sound has = absurd (cc has)
list_ranged action (c ∷ columns) [] used sound has = absurd sound
list_ranged action (c ∷ columns) (cell ∷ cells) used sound has =
    list_step (has_column holds.List columns) (is_same_column holds.List c) c columns cell cells (uses action c) refl refl (list_used action c used) sound.0
    (λ later. list_ranged action columns cells used sound.1 later) has

-- the same for a member's item
entry_step : (has same : Bool) (c : Column) (columns : List Column) (cell : List ℕ) (cells : Cells) (b : Bool)
    → has_column holds.Item columns ≡ has → is_same_column holds.Item c ≡ same → (same ≡ true → b ≡ true) → FlawBy b c cell None
    → (has ≡ true → is_id (number_under holds.Item columns cells) ≡ true) → (same || has) ≡ true
    → is_id (number_under holds.Item (c ∷ columns) (cell ∷ cells)) ≡ true
entry_step true true c columns cell cells b has same used flaw ih h = rw has (ih refl)
entry_step true false c columns cell cells b has same used flaw ih h = rw has (ih refl)
entry_step false false c columns cell cells b has same used flaw ih h = absurd (cc h)
entry_step false true (holds.Property p) columns cell cells b has same used flaw ih h = absurd (cc same)
entry_step false true holds.Query columns cell cells b has same used flaw ih h = absurd (cc same)
entry_step false true holds.List columns cell cells b has same used flaw ih h = absurd (cc same)
entry_step false true holds.Item columns cell cells b has same used flaw ih h =
    rw has (needed_ranged 1 cell (subst (λ used. FlawBy used holds.Item cell None) (used refl) flaw))

entry_ranged : (action : Action) (columns : List Column) (cells : Cells) → uses action holds.Item ≡ true → AreSound action columns cells
    → has_column holds.Item columns ≡ true → is_id (number_under holds.Item columns cells) ≡ true
entry_ranged action [] cells used sound has = absurd (cc has)
entry_ranged action (c ∷ columns) [] used sound has = absurd sound
entry_ranged action (c ∷ columns) (cell ∷ cells) used sound has =
    entry_step (has_column holds.Item columns) (is_same_column holds.Item c) c columns cell cells (uses action c) refl refl (entry_used action c used) sound.0
    (λ later. entry_ranged action columns cells used sound.1 later) has

-- the value in a cell fits its property
number_fits : (p : Property) (n : Option ℕ) (v : PropValue) → number_from p n ≡ Ok v → is_value_of p v ≡ true
number_fits p None v h = absurd (cc h)
number_fits p (Some n) v h = elim (cases_Bool (is_value_of p (Number n))) [
  | inl good ↦
      let e : ◌≡◌ {A = Result PropValue RecordWhy} (Ok (Number n)) (Ok v) = rw good at h in
      let same : Number n ≡ v = cc e in
      rw (← same) good
  | inr bad ↦ absurd (cc (rw bad at h))
]

text_fits : (b : ℕ) (bytes : List ℕ) (v : PropValue) → text_in (b ∷ bytes) ≡ Ok v → is_of_kind kind.Text v ≡ true
text_fits b bytes v h = elim (cases_Bool (is_utf8 (b ∷ bytes) && nat_le (length (b ∷ bytes)) text_limit)) [
  | inl good ↦
      let e : ◌≡◌ {A = Result PropValue RecordWhy} (Ok (Text (b ∷ bytes))) (Ok v) = rw good at h in
      let same : Text (b ∷ bytes) ≡ v = cc e in
      rw (← same) (and_from _ _ (lt-ltb 0 (suc (length bytes)) (omega arith)) (and_parts (is_utf8 (b ∷ bytes)) (nat_le (length (b ∷ bytes)) text_limit) good).1)
  | inr bad ↦ absurd (cc (rw bad at h))
]

as_kind : (k : Kind) (p : Property) (cell : List ℕ) (v : PropValue) → property_kind p ≡ k → number_from p (cell_number cell) ≡ Ok v → is_of_kind k v ≡ true
as_kind k p cell v e h = subst (λ q. is_of_kind q v ≡ true) e (number_fits p (cell_number cell) v h)

kind_fits : (k : Kind) (p : Property) (b : ℕ) (bytes : List ℕ) (v : PropValue) → property_kind p ≡ k → by_kind k p (b ∷ bytes) ≡ Ok v → is_of_kind k v ≡ true
kind_fits kind.Text p b bytes v e h = text_fits b bytes v h
kind_fits kind.U8 p b bytes v e h = as_kind kind.U8 p (b ∷ bytes) v e h
kind_fits kind.I8 p b bytes v e h = as_kind kind.I8 p (b ∷ bytes) v e h
kind_fits kind.U16 p b bytes v e h = as_kind kind.U16 p (b ∷ bytes) v e h
kind_fits kind.I16 p b bytes v e h = as_kind kind.I16 p (b ∷ bytes) v e h
kind_fits kind.U32 p b bytes v e h = as_kind kind.U32 p (b ∷ bytes) v e h
kind_fits kind.I32 p b bytes v e h = as_kind kind.I32 p (b ∷ bytes) v e h
kind_fits kind.U64 p b bytes v e h = as_kind kind.U64 p (b ∷ bytes) v e h
kind_fits kind.I64 p b bytes v e h = as_kind kind.I64 p (b ∷ bytes) v e h
kind_fits kind.Date p b bytes v e h = as_kind kind.Date p (b ∷ bytes) v e h
kind_fits kind.Version p b bytes v e h = as_kind kind.Version p (b ∷ bytes) v e h
kind_fits kind.List p b bytes v e h = as_kind kind.List p (b ∷ bytes) v e h
kind_fits kind.Opaque p b bytes v e h = as_kind kind.Opaque p (b ∷ bytes) v e h

pub property_fits : (p : Property) (b : ℕ) (bytes : List ℕ) (v : PropValue) → property_in p (b ∷ bytes) ≡ Ok v → is_value_of p v ≡ true
property_fits p b bytes v h = kind_fits (property_kind p) p b bytes v refl h

-- the properties of cells are an item's
set_item : (p : Property) (b : ℕ) (bytes : List ℕ) (r : Result PropValue RecordWhy) (item : Properties) → property_in p (b ∷ bytes) ≡ r → is_item item ≡ true
    → is_item (with_property p r item) ≡ true
set_item p b bytes (Ok v) item e h = stays_item p v 0 item (property_fits p b bytes v e) (omega arith) h
set_item p b bytes (Err why) item e h = h

cell_item : (c : Column) (cell : List ℕ) (item : Properties) → is_item item ≡ true → is_item (with_cell c cell item) ≡ true
cell_item (holds.Property p) [] item h = h
cell_item (holds.Property p) (b ∷ bytes) item h = set_item p b bytes (property_in p (b ∷ bytes)) item refl h
cell_item holds.Query cell item h = h
cell_item holds.List cell item h = h
cell_item holds.Item cell item h = h

pub cells_item : (columns : List Column) (cells : Cells) (item : Properties) → is_item item ≡ true → is_item (with_cells item columns cells) ≡ true
cells_item [] cells item h = h
cells_item (c ∷ columns) [] item h = h
cells_item (c ∷ columns) (cell ∷ cells) item h = cells_item columns cells (with_cell c cell item) (cell_item c cell item h)

-- so the name among them is short
short_text : (o : Option PropValue) → IfSome o (λ v. is_value_of Minm v ≡ true) → is_list_name (name_text o) ≡ true
short_text None h = refl
short_text (Some (Number n)) h = refl
short_text (Some (Text name)) h = (and_parts (nat_lt 0 (length name)) (nat_le (length name) text_limit) h).1

name_short : (columns : List Column) (cells : Cells) → is_list_name (name_in (properties_of columns cells)) ≡ true
name_short columns cells = short_text (value_of Minm (properties_of columns cells)) (value_fits Minm 0 (properties_of columns cells) (cells_item columns cells [] refl))

lacks_none : (a b : Bool) → (not a || (not b || false)) ≡ false → (a ≡ true) × (b ≡ true)
lacks_none true true h = (refl, refl)
lacks_none true false h = absurd (cc h)
lacks_none false b h = absurd (cc h)

lacks_no : (a : Bool) → (not a || false) ≡ false → a ≡ true
lacks_no true h = refl
lacks_no false h = absurd (cc h)

edit_valid : (action : Action) (id : ℕ) (columns : List Column) (cells : Cells) (edit : Edit) → (nat_le (least_id action) id && nat_lt id (2 ^ 32)) ≡ true
    → AreSound action columns cells → lacks action columns ≡ false → EditIs action id columns cells edit → IsValid edit
edit_valid does.PutItem id columns cells edit numbered sound has e = rw e numbered
edit_valid does.DropItem id columns cells edit numbered sound has e = rw e numbered
edit_valid does.PutList id columns cells edit numbered sound has e = rw e (and_from _ _ numbered (name_short columns cells))
edit_valid does.PutRule id columns cells edit numbered sound has e =
    rw e.2 (and_from _ _ numbered (and_from _ _ (name_short columns cells) (reads_proper (cell_under holds.Query columns cells) (tree_of e.0) e.1.1.1)))
edit_valid does.DropList id columns cells edit numbered sound has e = rw e numbered
edit_valid does.PutMember id columns cells edit numbered sound has e =
    let both = lacks_none (has_column holds.List columns) (has_column holds.Item columns) has in
    rw e (and_from _ _ (list_ranged does.PutMember columns cells refl sound both.0) (and_from _ _ numbered (entry_ranged does.PutMember columns cells refl sound both.1)))
edit_valid does.DropMember id columns cells edit numbered sound has e =
    rw e (and_from _ _ (list_ranged does.DropMember columns cells refl sound (lacks_no (has_column holds.List columns) has)) numbered)

id_valid : (action : Action) (row : ℕ) (columns : List Column) (cells : Cells) (cell : List ℕ) (r : Result ℕ RecordWhy) (edit : Edit) → id_in (least_id action) cell ≡ r
    → WithId action row columns cells r (Ok edit) → IsValid edit
id_valid action row columns cells cell (Ok id) edit e h = edit_valid action id columns cells edit (id_ranged (least_id action) cell id e) h.0 h.1 h.2
id_valid action row columns cells cell (Err why) edit e h = absurd (cc h)

action_valid : (row : ℕ) (columns : List Column) (cells : Cells) (r : Result Action RecordError) (edit : Edit) → WithAction row columns cells r (Ok edit) → IsValid edit
action_valid row columns cells (Ok action) edit h =
    id_valid action row columns (drop 3 cells) (get_or cells 2 []) (id_in (least_id action) (get_or cells 2 [])) edit refl h
action_valid row columns cells (Err fault) edit h = absurd (cc h)

length_valid : (b : Bool) (row : ℕ) (columns : List Column) (cells : Cells) (edit : Edit) → OfLength b row columns cells (Ok edit) → IsValid edit
length_valid true row columns cells edit h = action_valid row columns cells (action_of row (get_or cells 0 []) (get_or cells 1 [])) edit h
length_valid false row columns cells edit h = absurd (cc h)

within_valid : (b : Bool) (row : ℕ) (columns : List Column) (cells : Cells) (edit : Edit) → WithinBatch b row columns cells (Ok edit) → (b ≡ true) × IsValid edit
within_valid true row columns cells edit h = (refl, length_valid (length cells == length columns + 3) row columns cells edit h)
within_valid false row columns cells edit h = absurd (cc h)

-- a first valid edit before valid ones
valid_more : (edit : Edit) (rest : List Edit) → IsValid edit → AreValid rest → AreValid (edit ∷ rest)
valid_more edit rest first others zero d h = first
valid_more edit rest first others (suc k) d h = others k d (omega arith)

records_valid : (columns : List Column) (row : ℕ) (records : List Cells) (edits : List Edit) → row ≤ most_records + 1 → RecordsAnswer columns row records (Ok edits)
    → AreValid edits × (row + length edits ≤ most_records + 1)
records_valid columns row [] edits below h = rw h (λ k d inside. absurd (omega arith), omega arith)
records_valid columns row (cells ∷ records) edits below h =
    let here = within_valid (nat_lt row (suc most_records)) row columns cells h.0 h.2 in
    let few : row < suc most_records = ltb-true row (suc most_records) here.0 in
    let rest = records_valid columns (suc row) records h.1 (omega arith) h.3 in
    rw h.4 (valid_more h.0 h.1 here.1 rest.0, omega (arith, rest.1))

under_valid : (header : Result (List Column) RecordError) (records : List Cells) (edits : List Edit) → UnderHeader header records (Ok edits)
    → AreValid edits × (length edits ≤ most_records)
under_valid (Ok columns) records edits h =
    let told = records_valid columns 1 records edits (omega arith) h in
    (told.0, omega (arith, told.1))
under_valid (Err fault) records edits h = absurd (cc h)

pub batch_valid : (rows : List Cells) (edits : List Edit) → BatchReads rows (Ok edits) → AreValid edits × (length edits ≤ most_records)
unfolding BatchReads
batch_valid [] edits h =
    let none : ◌≡◌ {A = List Edit} edits [] = cc h in
    rw none (λ k d inside. absurd (omega arith), omega arith)
batch_valid (header ∷ records) edits h = under_valid (header_of header) records edits h

-- a batch that was read is valid, and not too long
pub read_valid : (rows : List Cells) (result : Result (List Edit) RecordError) → Told rows result → IfOk result AreValid
read_valid rows (Ok edits) h = (batch_valid rows edits h).0
read_valid rows (Err fault) h = tt

pub read_few : (rows : List Cells) (result : Result (List Edit) RecordError) → Told rows result → IfOk result (λ edits. length edits ≤ most_records)
read_few rows (Ok edits) h = (batch_valid rows edits h).1
read_few rows (Err fault) h = tt
