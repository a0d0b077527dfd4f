-- Rows have one result: they read as one batch, or have one error.
use Rattle.std.proofs.Common.{◌≡◌, ℕ, suc, List, [], ◌∷◌, length, get_or, drop, nat_lt, ◌==◌, ◌+◌, Bool, true, false, Option, Some, None, Result, Ok, Err, refl, sym, ap, ◌∙◌, inl, inr}
use Rattle.std.proofs.lemmas.Bool.{false≢true}
use Rattle.std.specs.Str.{is_utf8}
use Rattle.item_model.specs.declared.changes.Edit.{Edit}
use Rattle.item_model.specs.declared.changes.Edit.TheVariants as an_edit
use Rattle.item_model.specs.declared.query.Query.{Query}
use Rattle.item_model.specs.declared.refusal.QueryError.{QueryError}
use Rattle.item_model.specs.declared.refusal.RecordWhy.{RecordWhy}
use Rattle.item_model.specs.declared.refusal.RecordWhy.TheVariants as reason
use Rattle.song_query.proofs.Once.{answers_once, refusal_once, one_answer as one_answer_of_text}
use Rattle.records_import.specs.Actions.{least_id, uses}
use Rattle.records_import.specs.Columns.{header_of}
use Rattle.records_import.specs.Records.{AreSound, IsLeftmost, FurtherAnswer, WithId, WithAction, OfLength, WithinBatch, RecordAnswers, RecordsAnswer, UnderHeader, BatchReads, action_of, EditIs, cell_under, name_in, properties_of}
use Rattle.records_import.specs.Rules.{RuleReads}
use Rattle.records_import.specs.Table.{Cells}
use Rattle.records_import.specs.Values.{ReadFlaw, TextFlaw, RuleFlaw, UsedFlaw, FlawBy, CellFlaw, id_in}
use Rattle.records_import.specs.declared.action.Action.{Action}
use Rattle.records_import.specs.declared.action.Action.TheVariants as does
use Rattle.records_import.specs.Limits.{most_records}
use Rattle.records_import.specs.declared.header.Column.{Column}
use Rattle.records_import.specs.declared.header.Column.TheVariants as holds
use Rattle.records_import.specs.declared.refusal.RecordError.{RecordError}
use Rattle.records_import.specs.declared.refusal.RecordError.TheVariants.{Field}

-- the text of a rule does not both read and have an error
rule_once : (text : List ℕ) (rule : Query) (e : QueryError) → RuleReads text (Ok rule) → RuleReads text (Err e) → ⊥
rule_once text rule e h k = answers_once text rule e (λ m. k.0 (ap (λ (x : QueryError). Err x) m)) h.1 k.1

rule_refusal_once : (text : List ℕ) (d e : QueryError) → RuleReads text (Err d) → RuleReads text (Err e) → d ≡ e
rule_refusal_once text d e h k =
    refusal_once text d e (λ m. h.0 (ap (λ (x : QueryError). Err x) m)) (λ m. k.0 (ap (λ (x : QueryError). Err x) m)) h.1 k.1

rule_same : (text : List ℕ) (p q : Query) → RuleReads text (Ok p) → RuleReads text (Ok q) → p ≡ q
rule_same text p q h k = ok_is (one_answer_of_text text (Ok p) (Ok q) h.0 k.0 h.1 k.1)
  where
    ok_is : ◌≡◌ {A = Result Query QueryError} (Ok p) (Ok q) → p ≡ q
    ok_is e = cc

-- a cell has one error or none
read_flaw_once : (cell : List ℕ) (f g : Option RecordWhy) → ReadFlaw cell f → ReadFlaw cell g → f ≡ g
read_flaw_once cell None None h k = refl
read_flaw_once cell None (Some (reason.Query e)) h k = absurd (rule_once cell h.0 e h.1 k)
read_flaw_once cell None (Some _) h k = absurd k
read_flaw_once cell (Some (reason.Query d)) None h k = absurd (rule_once cell k.0 d k.1 h)
read_flaw_once cell (Some (reason.Query d)) (Some (reason.Query e)) h k = ap (λ x. Some (reason.Query x)) (rule_refusal_once cell d e h k)
read_flaw_once cell (Some (reason.Query d)) (Some _) h k = absurd k
read_flaw_once cell (Some _) g h k = absurd h

text_flaw_once : (is_text : Bool) (cell : List ℕ) (f g : Option RecordWhy) → TextFlaw is_text cell f → TextFlaw is_text cell g → f ≡ g
text_flaw_once true cell f g h k = read_flaw_once cell f g h k
text_flaw_once false cell f g h k = h ∙ sym k

rule_flaw_once : (cell : List ℕ) (f g : Option RecordWhy) → RuleFlaw cell f → RuleFlaw cell g → f ≡ g
rule_flaw_once [] f g h k = h ∙ sym k
rule_flaw_once (b ∷ bytes) f g h k = text_flaw_once (is_utf8 (b ∷ bytes)) (b ∷ bytes) f g h k

used_flaw_once : (column : Column) (cell : List ℕ) (f g : Option RecordWhy) → UsedFlaw column cell f → UsedFlaw column cell g → f ≡ g
used_flaw_once (holds.Property p) cell f g h k = h ∙ sym k
used_flaw_once holds.Query cell f g h k = rule_flaw_once cell f g h k
used_flaw_once holds.List cell f g h k = h ∙ sym k
used_flaw_once holds.Item cell f g h k = h ∙ sym k

flaw_by_once : (is_used : Bool) (column : Column) (cell : List ℕ) (f g : Option RecordWhy) → FlawBy is_used column cell f → FlawBy is_used column cell g → f ≡ g
flaw_by_once true column cell f g h k = used_flaw_once column cell f g h k
flaw_by_once false column cell f g h k = h ∙ sym k

flaw_once : (action : Action) (column : Column) (cell : List ℕ) (f g : Option RecordWhy) → CellFlaw action column cell f → CellFlaw action column cell g → f ≡ g
flaw_once action column cell f g h k = flaw_by_once (uses action column) column cell f g h k

-- a sound cell is not malformed
sound_once : (action : Action) (column : Column) (cell : List ℕ) (why : RecordWhy) → CellFlaw action column cell None → CellFlaw action column cell (Some why) → ⊥
sound_once action column cell why h k = none_some why (flaw_once action column cell None (Some why) h k)
  where
    none_some : (w : RecordWhy) → None ≡ Some w → ⊥
    none_some w e = cc

why_once : (action : Action) (column : Column) (cell : List ℕ) (v w : RecordWhy) → CellFlaw action column cell (Some v) → CellFlaw action column cell (Some w) → v ≡ w
why_once action column cell v w h k = some_is v w (flaw_once action column cell (Some v) (Some w) h k)
  where
    some_is : (x y : RecordWhy) → Some x ≡ Some y → x ≡ y
    some_is x y e = cc

-- sound cells have no leftmost error
sound_cells_once : (action : Action) (row place : ℕ) (columns : List Column) (cells : Cells) (fault : RecordError)
    → AreSound action columns cells → IsLeftmost action row place columns cells fault → ⊥
sound_cells_once action row place [] cells fault h k = k
sound_cells_once action row place (c ∷ columns) [] fault h k = k
sound_cells_once action row place (c ∷ columns) (cell ∷ cells) fault h k = elim k [
  | inl here ↦ sound_once action c cell here.0 h.0 here.1
  | inr later ↦ sound_cells_once action row (suc place) columns cells fault h.1 later.1
]

-- there is one leftmost error
leftmost_once : (action : Action) (row place : ℕ) (columns : List Column) (cells : Cells) (d e : RecordError)
    → IsLeftmost action row place columns cells d → IsLeftmost action row place columns cells e → d ≡ e
leftmost_once action row place [] cells d e h k = absurd h
leftmost_once action row place (c ∷ columns) [] d e h k = absurd h
leftmost_once action row place (c ∷ columns) (cell ∷ cells) d e h k = elim h [
  | inl here ↦ elim k [
    | inl there ↦ here.2 ∙ ap (λ why. Field row place why) (why_once action c cell here.0 there.0 here.1 there.1) ∙ sym there.2
    | inr later ↦ absurd (sound_once action c cell here.0 later.0 here.1)
  ]
  | inr later ↦ elim k [
    | inl there ↦ absurd (sound_once action c cell there.0 later.0 there.1)
    | inr behind ↦ leftmost_once action row (suc place) columns cells d e later.1 behind.1
  ]
]

-- two results that are one
same_answer : (A : Type 0) (a b answer : Result A RecordError) → a ≡ answer → b ≡ answer → a ≡ b
same_answer A a b answer h k = h ∙ sym k

-- an edit of the same cells is the same
edit_once : (action : Action) (id : ℕ) (columns : List Column) (cells : Cells) (x y : Edit) → EditIs action id columns cells x → EditIs action id columns cells y → x ≡ y
edit_once does.PutItem id columns cells x y h k = h ∙ sym k
edit_once does.DropItem id columns cells x y h k = h ∙ sym k
edit_once does.PutList id columns cells x y h k = h ∙ sym k
edit_once does.PutRule id columns cells x y h k =
    h.2
    ∙ ap (λ rule. an_edit.PutRule id (name_in (properties_of columns cells)) rule) (rule_same (cell_under holds.Query columns cells) h.0 k.0 h.1 k.1)
    ∙ sym k.2
edit_once does.DropList id columns cells x y h k = h ∙ sym k
edit_once does.PutMember id columns cells x y h k = h ∙ sym k
edit_once does.DropMember id columns cells x y h k = h ∙ sym k

no_edit_twice : (action : Action) (row id : ℕ) (columns : List Column) (cells : Cells) (edit : Edit) (fault : RecordError)
    → FurtherAnswer action row id columns cells (Ok edit) → FurtherAnswer action row id columns cells (Err fault) → ⊥
no_edit_twice action row id columns cells edit fault h k = elim k [
  | inl leftmost ↦ sound_cells_once action row 4 columns cells fault h.0 leftmost
  | inr missing ↦ false≢true (sym h.1 ∙ missing.1)
]

fault_once : (action : Action) (row id : ℕ) (columns : List Column) (cells : Cells) (d e : RecordError)
    → FurtherAnswer action row id columns cells (Err d) → FurtherAnswer action row id columns cells (Err e) → d ≡ e
fault_once action row id columns cells d e h k = elim h [
  | inl one ↦ elim k [
    | inl other ↦ leftmost_once action row 4 columns cells d e one other
    | inr missing ↦ absurd (sound_cells_once action row 4 columns cells d missing.0 one)
  ]
  | inr missing ↦ elim k [
    | inl other ↦ absurd (sound_cells_once action row 4 columns cells e missing.0 other)
    | inr absent ↦ missing.2 ∙ sym absent.2
  ]
]

further_once : (action : Action) (row id : ℕ) (columns : List Column) (cells : Cells) (a b : Result Edit RecordError)
    → FurtherAnswer action row id columns cells a → FurtherAnswer action row id columns cells b → a ≡ b
further_once action row id columns cells (Ok x) (Ok y) h k = ap (λ (z : Edit). Ok z) (edit_once action id columns cells x y h.2 k.2)
further_once action row id columns cells (Ok x) (Err e) h k = absurd (no_edit_twice action row id columns cells x e h k)
further_once action row id columns cells (Err d) (Ok y) h k = absurd (no_edit_twice action row id columns cells y d k h)
further_once action row id columns cells (Err d) (Err e) h k = ap (λ (z : RecordError). Err z) (fault_once action row id columns cells d e h k)

with_id_once : (action : Action) (row : ℕ) (columns : List Column) (cells : Cells) (id : Result ℕ RecordWhy) (a b : Result Edit RecordError)
    → WithId action row columns cells id a → WithId action row columns cells id b → a ≡ b
with_id_once action row columns cells (Ok id) a b h k = further_once action row id columns cells a b h k
with_id_once action row columns cells (Err why) a b h k = same_answer Edit a b _ h k

with_action_once : (row : ℕ) (columns : List Column) (cells : Cells) (action : Result Action RecordError) (a b : Result Edit RecordError)
    → WithAction row columns cells action a → WithAction row columns cells action b → a ≡ b
with_action_once row columns cells (Ok action) a b h k =
    with_id_once action row columns (drop 3 cells) (id_in (least_id action) (get_or cells 2 [])) a b h k
with_action_once row columns cells (Err fault) a b h k = same_answer Edit a b _ h k

of_length_once : (is_long : Bool) (row : ℕ) (columns : List Column) (cells : Cells) (a b : Result Edit RecordError)
    → OfLength is_long row columns cells a → OfLength is_long row columns cells b → a ≡ b
of_length_once true row columns cells a b h k = with_action_once row columns cells (action_of row (get_or cells 0 []) (get_or cells 1 [])) a b h k
of_length_once false row columns cells a b h k = same_answer Edit a b _ h k

within_batch_once : (is_within : Bool) (row : ℕ) (columns : List Column) (cells : Cells) (a b : Result Edit RecordError)
    → WithinBatch is_within row columns cells a → WithinBatch is_within row columns cells b → a ≡ b
within_batch_once true row columns cells a b h k = of_length_once (length cells == length columns + 3) row columns cells a b h k
within_batch_once false row columns cells a b h k = same_answer Edit a b _ h k

-- two results of a record are equal
record_once : (columns : List Column) (row : ℕ) (cells : Cells) (a b : Result Edit RecordError)
    → RecordAnswers columns row cells a → RecordAnswers columns row cells b → a ≡ b
record_once columns row cells a b h k = within_batch_once (nat_lt row (suc most_records)) row columns cells a b h k

-- so a record that is an edit has no error, and a record has one edit or one error
not_both : (columns : List Column) (row : ℕ) (cells : Cells) (edit : Edit) (fault : RecordError)
    → RecordAnswers columns row cells (Ok edit) → RecordAnswers columns row cells (Err fault) → ⊥
not_both columns row cells edit fault h k = ok_err (record_once columns row cells (Ok edit) (Err fault) h k)
  where
    ok_err : ◌≡◌ {A = Result Edit RecordError} (Ok edit) (Err fault) → ⊥
    ok_err e = cc

one_edit : (columns : List Column) (row : ℕ) (cells : Cells) (x y : Edit) → RecordAnswers columns row cells (Ok x) → RecordAnswers columns row cells (Ok y) → x ≡ y
one_edit columns row cells x y h k = ok_is (record_once columns row cells (Ok x) (Ok y) h k)
  where
    ok_is : ◌≡◌ {A = Result Edit RecordError} (Ok x) (Ok y) → x ≡ y
    ok_is e = cc

one_fault : (columns : List Column) (row : ℕ) (cells : Cells) (d e : RecordError) → RecordAnswers columns row cells (Err d) → RecordAnswers columns row cells (Err e) → d ≡ e
one_fault columns row cells d e h k = err_is (record_once columns row cells (Err d) (Err e) h k)
  where
    err_is : ◌≡◌ {A = Result Edit RecordError} (Err d) (Err e) → d ≡ e
    err_is x = cc

-- records do not both have edits and an error
no_edits_twice : (columns : List Column) (row : ℕ) (records : List Cells) (edits : List Edit) (fault : RecordError)
    → RecordsAnswer columns row records (Ok edits) → RecordsAnswer columns row records (Err fault) → ⊥
no_edits_twice columns row [] edits fault h k = k
no_edits_twice columns row (cells ∷ records) edits fault h k = elim k [
  | inl here ↦ not_both columns row cells h.0 fault h.2 here
  | inr later ↦ no_edits_twice columns (suc row) records h.1 fault h.3 later.2
]

-- they have one list of edits
edits_once : (columns : List Column) (row : ℕ) (records : List Cells) (xs ys : List Edit)
    → RecordsAnswer columns row records (Ok xs) → RecordsAnswer columns row records (Ok ys) → xs ≡ ys
edits_once columns row [] xs ys h k = h ∙ sym k
edits_once columns row (cells ∷ records) xs ys h k =
    h.4
    ∙ ap (λ edit. edit ∷ h.1) (one_edit columns row cells h.0 k.0 h.2 k.2)
    ∙ ap (λ rest. k.0 ∷ rest) (edits_once columns (suc row) records h.1 k.1 h.3 k.3)
    ∙ sym k.4

-- and one error
records_fault_once : (columns : List Column) (row : ℕ) (records : List Cells) (d e : RecordError)
    → RecordsAnswer columns row records (Err d) → RecordsAnswer columns row records (Err e) → d ≡ e
records_fault_once columns row [] d e h k = absurd h
records_fault_once columns row (cells ∷ records) d e h k = elim h [
  | inl here ↦ elim k [
    | inl there ↦ one_fault columns row cells d e here there
    | inr later ↦ absurd (not_both columns row cells later.0 d later.1 here)
  ]
  | inr later ↦ elim k [
    | inl there ↦ absurd (not_both columns row cells later.0 e later.1 there)
    | inr behind ↦ records_fault_once columns (suc row) records d e later.2 behind.2
  ]
]

records_once : (columns : List Column) (row : ℕ) (records : List Cells) (a b : Result (List Edit) RecordError)
    → RecordsAnswer columns row records a → RecordsAnswer columns row records b → a ≡ b
records_once columns row records (Ok x) (Ok y) h k = ap (λ (z : List Edit). Ok z) (edits_once columns row records x y h k)
records_once columns row records (Ok x) (Err e) h k = absurd (no_edits_twice columns row records x e h k)
records_once columns row records (Err d) (Ok y) h k = absurd (no_edits_twice columns row records y d k h)
records_once columns row records (Err d) (Err e) h k = ap (λ (z : RecordError). Err z) (records_fault_once columns row records d e h k)

under_header_once : (header : Result (List Column) RecordError) (records : List Cells) (a b : Result (List Edit) RecordError)
    → UnderHeader header records a → UnderHeader header records b → a ≡ b
under_header_once (Ok columns) records a b h k = records_once columns 1 records a b h k
under_header_once (Err fault) records a b h k = same_answer (List Edit) a b _ h k

-- two results of a text's rows are equal
pub one_answer : (rows : List Cells) (a b : Result (List Edit) RecordError) → BatchReads rows a → BatchReads rows b → a ≡ b
unfolding BatchReads
one_answer [] a b h k = same_answer (List Edit) a b _ h k
one_answer (header ∷ records) a b h k = under_header_once (header_of header) records a b h k

-- so they read as one batch
pub batch_same : (rows : List Cells) (a b : List Edit) → BatchReads rows (Ok a) → BatchReads rows (Ok b) → a ≡ b
batch_same rows a b h k = ok_is (one_answer rows (Ok a) (Ok b) h k)
  where
    ok_is : ◌≡◌ {A = Result (List Edit) RecordError} (Ok a) (Ok b) → a ≡ b
    ok_is e = cc

-- rows that read as a batch have no error
pub batch_once : (rows : List Cells) (edits : List Edit) (e : RecordError) → BatchReads rows (Ok edits) → BatchReads rows (Err e) → ⊥
batch_once rows edits e h k = ok_err (one_answer rows (Ok edits) (Err e) h k)
  where
    ok_err : ◌≡◌ {A = Result (List Edit) RecordError} (Ok edits) (Err e) → ⊥
    ok_err x = cc
