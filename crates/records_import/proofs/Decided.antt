-- Rows have a result: their cells are applied one after another, which results in a batch or an error.
use Rattle.std.proofs.Common.{◌≡◌, ◌≢◌, ◌⊎◌, ◌+◌, ◌==◌, ◌&&◌, ◌^◌, ◌++◌, ℕ, suc, Bool, true, false, List, [], ◌∷◌, length, drop, get_or, nat_lt, nat_le, Option, Some, None, Result, Ok, Err, refl, ap, sym, subst, ◌∙◌, inl, inr, arith}
use Rattle.std.proofs.lemmas.Bool.{cases_Bool, eqb-true, false≢true}
use Rattle.std.proofs.lemmas.List.{length-drop}
use Rattle.std.specs.Prelude.{codes}
use Rattle.std.specs.Str.{bytes_eq, is_utf8}
use Rattle.item_model.specs.declared.changes.Edit.{Edit}
use Rattle.item_model.specs.declared.property.Property.{Property}
use Rattle.item_model.specs.declared.query.Query.{Query}
use Rattle.item_model.specs.declared.refusal.QueryError.{QueryError}
use Rattle.item_model.specs.declared.refusal.RecordWhy.{RecordWhy}
use Rattle.item_model.specs.declared.refusal.RecordWhy.TheVariants as reason
use Rattle.song_query.specs.Answers.{Answers}
use Rattle.song_query.proofs.Decided.{answer_for}
use Rattle.records_import.specs.Actions.{drop_of_kind, least_id, put_of_kind, uses}
use Rattle.records_import.specs.Columns.{column_named, columns_of, header_of, is_named, unless_known}
use Rattle.records_import.specs.Limits.{most_records}
use Rattle.records_import.specs.Number.{cell_number}
use Rattle.records_import.specs.Records.{BatchReads, FurtherAnswer, IsLeftmost, OfLength, RecordAnswers, RecordsAnswer, UnderHeader, WithAction, WithId, WithinBatch, action_of, or_fault, with_cell}
use Rattle.records_import.specs.Rules.{RuleReads}
use Rattle.records_import.specs.Table.{Cells}
use Rattle.records_import.specs.Values.{FlawBy, RuleFlaw, UsedFlaw, id_in, needed_id, property_flaw}
use Rattle.records_import.specs.Walk.{Added, AddedBy, Walked, edit_from, no_values}
use Rattle.records_import.specs.declared.action.Action.{Action}
use Rattle.records_import.specs.declared.header.Column.{Column}
use Rattle.records_import.specs.declared.header.Column.TheVariants as holds
use Rattle.records_import.specs.declared.refusal.RecordError.{RecordError}
use Rattle.records_import.specs.declared.refusal.RecordError.TheVariants.{Header, Field, Length, TooMany, Memory}
use Rattle.records_import.specs.declared.values.Values.{Values}
use Rattle.records_import.proofs.Walks.{EditAnswer, walked_edit}

-- an error other than out of memory
abbrev is_fault : RecordError → Bool
is_fault Memory = false
is_fault (Header column) = true
is_fault (Field row column why) = true
is_fault (Length row) = true
is_fault (TooMany row) = true

abbrev is_answer : {A : Type 0} → Result A RecordError → Bool
is_answer (Ok x) = true
is_answer (Err fault) = is_fault fault

-- the query's cell is a rule, or has an error
abbrev RuleDecided : List ℕ → Type 0
RuleDecided cell = ((rule : Query) × RuleFlaw cell None × RuleReads cell (Ok rule)) ⊎ ((why : RecordWhy) × RuleFlaw cell (Some why))

text_decided : (b : ℕ) (bytes : List ℕ) → is_utf8 (b ∷ bytes) ≡ true → (answer : Result Query QueryError) → (answer ≢ Err Rattle.item_model.specs.declared.refusal.QueryError.TheVariants.Memory) → Answers (b ∷ bytes) answer → RuleDecided (b ∷ bytes)
text_decided b bytes text (Ok rule) fine answers = inl (rule, rw text (rule, (fine, answers)), (fine, answers))
text_decided b bytes text (Err error) fine answers = inr (reason.Query error, rw text (fine, answers))

rule_decided : (cell : List ℕ) → RuleDecided cell
rule_decided [] = inr (reason.Missing, refl)
rule_decided (b ∷ bytes) = elim (cases_Bool (is_utf8 (b ∷ bytes))) [
  | inl text ↦ (let a = answer_for (b ∷ bytes) in text_decided b bytes text a.0 a.1 a.2)
  | inr other ↦ inr (reason.Text, rw other refl)
]

-- a cell is an id that the record needs, or has an error
abbrev IdDecided : ℕ → List ℕ → Type 0
IdDecided least cell = ((id : ℕ) × (needed_id least cell ≡ Ok id) × (cell_number cell ≡ Some id)) ⊎ ((why : RecordWhy) × (needed_id least cell ≡ Err why))

number_decided : (least b : ℕ) (bytes : List ℕ) (n : Option ℕ) → cell_number (b ∷ bytes) ≡ n → IdDecided least (b ∷ bytes)
number_decided least b bytes None e = inr (reason.Number, rw e refl)
number_decided least b bytes (Some n) e = elim (cases_Bool (nat_le least n && nat_lt n (2 ^ 32))) [
  | inl good ↦ inl (n, rw e (rw good refl), e)
  | inr bad ↦ inr (reason.Range, rw e (rw bad refl))
]

id_decided : (least : ℕ) (cell : List ℕ) → IdDecided least cell
id_decided least [] = inr (reason.Missing, refl)
id_decided least (b ∷ bytes) = number_decided least b bytes (cell_number (b ∷ bytes)) refl

-- a cell that the action uses adds something, or has an error
abbrev UsedDecided : Column → List ℕ → Values → Type 0
UsedDecided column cell before = ((next : Values) × UsedFlaw column cell None × Added column cell before next) ⊎ ((why : RecordWhy) × UsedFlaw column cell (Some why))

property_decided : (p : Property) (cell : List ℕ) (before : Values) (flaw : Option RecordWhy) → property_flaw p cell ≡ flaw → UsedDecided (holds.Property p) cell before
property_decided p cell before None e = inl (record before { item = with_cell (holds.Property p) cell before.item }, sym e, refl)
property_decided p cell before (Some why) e = inr (why, sym e)

used_decided : (column : Column) (cell : List ℕ) (before : Values) → UsedDecided column cell before
used_decided (holds.Property p) cell before = property_decided p cell before (property_flaw p cell) refl
used_decided holds.Query cell before = elim (rule_decided cell) [
  | inl found ↦ inl (record before { rule = Some found.0 }, found.1, (found.0, found.2, refl))
  | inr flaw ↦ inr flaw
]
used_decided holds.List cell before = elim (id_decided 2 cell) [
  | inl found ↦ inl (record before { list = Some found.0 }, rw found.1 refl, (found.0, found.2, refl))
  | inr flaw ↦ inr (flaw.0, rw flaw.1 refl)
]
used_decided holds.Item cell before = elim (id_decided 1 cell) [
  | inl found ↦ inl (record before { entry = Some found.0 }, rw found.1 refl, (found.0, found.2, refl))
  | inr flaw ↦ inr (flaw.0, rw flaw.1 refl)
]

-- and one that it doesn't use is empty, or has an error
cell_decided : (is_used : Bool) (column : Column) (cell : List ℕ) (before : Values)
    → ((next : Values) × FlawBy is_used column cell None × AddedBy is_used column cell before next) ⊎ ((why : RecordWhy) × FlawBy is_used column cell (Some why))
cell_decided true column cell before = used_decided column cell before
cell_decided false column [] before = inl (before, refl, refl)
cell_decided false column (b ∷ bytes) before = inr (reason.Extra, refl)

-- all cells are applied, or the leftmost malformed one has the error
abbrev CellsDecided : Action → ℕ → ℕ → List Column → Cells → Values → Type 0
CellsDecided action row place columns cells before =
    ((after : Values) × Walked action columns cells before after) ⊎ ((fault : RecordError) × (is_fault fault ≡ true) × IsLeftmost action row place columns cells fault)

cells_decided : (action : Action) (row place : ℕ) (columns : List Column) (cells : Cells) (before : Values) → length cells ≡ length columns → CellsDecided action row place columns cells before
cells_decided action row place [] cells before same = inl (before, refl)
cells_decided action row place (c ∷ columns) [] before same = absurd (omega arith)
cells_decided action row place (c ∷ columns) (cell ∷ cells) before same = elim (cell_decided (uses action c) c cell before) [
  | inl one ↦ elim (cells_decided action row (suc place) columns cells one.0 (omega arith)) [
    | inl all ↦ inl (all.0, (one.0, one.1, one.2, all.1))
    | inr fault ↦ inr (fault.0, fault.1, inr (one.1, fault.2))
  ]
  | inr flaw ↦ inr (Field row place flaw.0, refl, inl (flaw.0, flaw.1, refl))
]

-- so a record is an edit or has an error, by its parts from the last on
edit_decided : (action : Action) (row id : ℕ) (columns : List Column) (cells : Cells) (found : Option Edit) → EditAnswer action row id columns cells found
    → (answer : Result Edit RecordError) × (is_answer answer ≡ true) × FurtherAnswer action row id columns cells answer
edit_decided action row id columns cells (Some edit) h = (Ok edit, refl, h)
edit_decided action row id columns cells None h = (Err (Field row (length columns + 4) reason.Missing), refl, h)

further_decided : (action : Action) (row id : ℕ) (columns : List Column) (cells : Cells) → length cells ≡ length columns
    → (answer : Result Edit RecordError) × (is_answer answer ≡ true) × FurtherAnswer action row id columns cells answer
further_decided action row id columns cells same = elim (cells_decided action row 4 columns cells no_values same) [
  | inl walked ↦ edit_decided action row id columns cells (edit_from action id walked.0) (walked_edit action row id columns cells walked.0 walked.1)
  | inr fault ↦ (Err fault.0, fault.1, inl fault.2)
]

with_id_decided : (action : Action) (row : ℕ) (columns : List Column) (cells : Cells) (id : Result ℕ RecordWhy) → length cells ≡ length columns
    → (answer : Result Edit RecordError) × (is_answer answer ≡ true) × WithId action row columns cells id answer
with_id_decided action row columns cells (Ok id) same = further_decided action row id columns cells same
with_id_decided action row columns cells (Err why) same = (Err (Field row 3 why), refl, refl)

with_action_decided : (row : ℕ) (columns : List Column) (cells : Cells) (action : Result Action RecordError) → is_answer action ≡ true → length cells ≡ length columns + 3
    → (answer : Result Edit RecordError) × (is_answer answer ≡ true) × WithAction row columns cells action answer
with_action_decided row columns cells (Ok action) fine same =
    with_id_decided action row columns (drop 3 cells) (id_in (least_id action) (get_or cells 2 [])) (omega (arith, length-drop 3 cells))
with_action_decided row columns cells (Err fault) fine same = (Err fault, fine, refl)

kind_decided : (row : ℕ) (found : Option Action) → is_answer (or_fault (Field row 2 reason.Kind) found) ≡ true
kind_decided row None = refl
kind_decided row (Some action) = refl

action_decided : (row : ℕ) (op kind : List ℕ) → is_answer (action_of row op kind) ≡ true
action_decided row op kind = elim (cases_Bool (bytes_eq op (codes "put"))) [
  | inl puts ↦ rw puts (kind_decided row (put_of_kind kind))
  | inr other ↦ elim (cases_Bool (bytes_eq op (codes "drop"))) [
    | inl drops ↦ rw (other, drops) (kind_decided row (drop_of_kind kind))
    | inr neither ↦ rw (other, neither) refl
  ]
]

of_length_decided : (is_long : Bool) (row : ℕ) (columns : List Column) (cells : Cells) → (length cells == length columns + 3) ≡ is_long
    → (answer : Result Edit RecordError) × (is_answer answer ≡ true) × OfLength is_long row columns cells answer
of_length_decided true row columns cells same =
    with_action_decided row columns cells (action_of row (get_or cells 0 []) (get_or cells 1 [])) (action_decided row (get_or cells 0 []) (get_or cells 1 [])) (eqb-true _ _ same)
of_length_decided false row columns cells same = (Err (Length row), refl, refl)

within_batch_decided : (is_within : Bool) (row : ℕ) (columns : List Column) (cells : Cells)
    → (answer : Result Edit RecordError) × (is_answer answer ≡ true) × WithinBatch is_within row columns cells answer
within_batch_decided true row columns cells = of_length_decided (length cells == length columns + 3) row columns cells refl
within_batch_decided false row columns cells = (Err (TooMany row), refl, refl)

record_decided : (columns : List Column) (row : ℕ) (cells : Cells) → (answer : Result Edit RecordError) × (is_answer answer ≡ true) × RecordAnswers columns row cells answer
record_decided columns row cells = within_batch_decided (nat_lt row (suc most_records)) row columns cells

-- records are edits, or the first malformed one has an error
abbrev RecordsDecided : List Column → ℕ → List Cells → Type 0
RecordsDecided columns row records = (answer : Result (List Edit) RecordError) × (is_answer answer ≡ true) × RecordsAnswer columns row records answer

before_records : (columns : List Column) (row : ℕ) (cells : Cells) (records : List Cells) (edit : Edit) → RecordAnswers columns row cells (Ok edit) → (answer : Result (List Edit) RecordError)
    → is_answer answer ≡ true → RecordsAnswer columns (suc row) records answer → RecordsDecided columns row (cells ∷ records)
before_records columns row cells records edit here (Ok edits) fine later = (Ok (edit ∷ edits), refl, (edit, edits, here, later, refl))
before_records columns row cells records edit here (Err fault) fine later = (Err fault, fine, inr (edit, here, later))

with_records : (columns : List Column) (row : ℕ) (cells : Cells) (records : List Cells) (first : Result Edit RecordError) → is_answer first ≡ true → RecordAnswers columns row cells first
    → RecordsDecided columns (suc row) records → RecordsDecided columns row (cells ∷ records)
with_records columns row cells records (Ok edit) fine here later = before_records columns row cells records edit here later.0 later.1 later.2
with_records columns row cells records (Err fault) fine here later = (Err fault, fine, inl here)

records_decided : (columns : List Column) (row : ℕ) (records : List Cells) → RecordsDecided columns row records
records_decided columns row [] = (Ok [], refl, refl)
records_decided columns row (cells ∷ records) =
    let first = record_decided columns row cells in
    with_records columns row cells records first.0 first.1 first.2 (records_decided columns (suc row) records)

-- the header has columns, or an error
column_decided : (place : ℕ) (known : List Column) (name : List ℕ) (names : Cells) (found : Option Column) → unless_known known (column_named name) ≡ found
    → ((column : Column) → is_answer (columns_of (suc place) (known ++ column ∷ []) names) ≡ true) → is_answer (columns_of place known (name ∷ names)) ≡ true
column_decided place known name names None e later = rw (e, columns_of, is_answer) refl
column_decided place known name names (Some column) e later =
    subst
    (λ (found : Option Column). is_answer (elim found as (λ _. Result (List Column) RecordError) [ None ↦ Err (Header place) | Some c ↦ columns_of (suc place) (known ++ c ∷ []) names ]) ≡ true)
    (sym e) (later column)

columns_decided : (place : ℕ) (known : List Column) (names : Cells) → is_answer (columns_of place known names) ≡ true
columns_decided place known [] = refl
columns_decided place known (name ∷ names) =
    column_decided place known name names (unless_known known (column_named name)) refl (λ column. columns_decided (suc place) (known ++ column ∷ []) names)

header_decided : (cells : Cells) → is_answer (header_of cells) ≡ true
header_decided cells = elim (cases_Bool (is_named cells 0 (codes "op"))) [
  | inl op ↦ elim (cases_Bool (is_named cells 1 (codes "kind"))) [
    | inl kind ↦ elim (cases_Bool (is_named cells 2 (codes "id"))) [
      | inl id ↦ rw (op, kind, id) (columns_decided 4 [] (drop 3 cells))
      | inr other ↦ rw (op, kind, other) refl
    ]
    | inr other ↦ rw (op, other) refl
  ]
  | inr other ↦ rw other refl
]

under_header_decided : (header : Result (List Column) RecordError) (records : List Cells) → is_answer header ≡ true
    → (answer : Result (List Edit) RecordError) × (is_answer answer ≡ true) × UnderHeader header records answer
under_header_decided (Ok columns) records fine = records_decided columns 1 records
under_header_decided (Err fault) records fine = (Err fault, fine, refl)

batch_decided : (rows : List Cells) → (answer : Result (List Edit) RecordError) × (is_answer answer ≡ true) × BatchReads rows answer
unfolding BatchReads
batch_decided [] = (Ok [], refl, refl)
batch_decided (header ∷ records) = under_header_decided (header_of header) records (header_decided header)

not_memory : (answer : Result (List Edit) RecordError) → is_answer answer ≡ true → answer ≢ Err Memory
not_memory answer fine e = false≢true (sym (ap is_answer e) ∙ fine)

-- rows read as a batch, or have an error
pub batch_for : (rows : List Cells) → (answer : Result (List Edit) RecordError) × (answer ≢ Err Memory) × BatchReads rows answer
batch_for rows = let found = batch_decided rows in (found.0, not_memory found.0 found.1, found.2)
