-- The errors of records are valid: none is an allocation failure.
use Rattle.std.proofs.Common.{◌≡◌, ℕ, suc, ◌+◌, List, [], ◌∷◌, ◌++◌, length, drop, get_or, Bool, true, false, ◌==◌, nat_lt, Option, Some, None, Result, Ok, Err, IfErr, inl, inr, sym, ap, subst}
use Rattle.std.specs.Prelude.{codes, if◌then◌else◌, nat_le, ◌&&◌, ◌^◌, ⊤}
use Rattle.std.specs.Str.{bytes_eq, is_utf8}
use Rattle.dmap_tags.specs.declared.kinds.Kind.{Kind}
use Rattle.dmap_tags.specs.declared.kinds.Kind.TheVariants as kind
use Rattle.item_model.specs.Items.{is_value_of}
use Rattle.item_model.specs.Limits.{text_limit}
use Rattle.item_model.specs.Properties.{property_kind}
use Rattle.item_model.specs.declared.item.PropValue.TheVariants as value
use Rattle.item_model.specs.declared.property.Property.{Property}
use Rattle.item_model.specs.declared.query.Query.{Query}
use Rattle.item_model.specs.declared.refusal.QueryError.{QueryError}
use Rattle.item_model.specs.declared.refusal.RecordWhy.{RecordWhy}
use Rattle.item_model.specs.declared.refusal.RecordWhy.TheVariants as reason
use Rattle.records_import.specs.Actions.{drop_of_kind, least_id, put_of_kind, uses}
use Rattle.records_import.specs.Columns.{column_named, columns_of, header_of, is_named, unless_known}
use Rattle.records_import.specs.Limits.{most_records}
use Rattle.records_import.specs.Number.{cell_number}
use Rattle.records_import.specs.Records.{BatchReads, FurtherAnswer, IsLeftmost, OfLength, RecordsAnswer, UnderHeader, WithAction, WithId, WithinBatch, action_of, or_fault}
use Rattle.records_import.specs.Table.{Cells}
use Rattle.records_import.specs.Values.{FlawBy, ReadFlaw, RuleFlaw, TextFlaw, UsedFlaw, by_kind, flaw_of, id_from, id_in, needed_id, number_from, property_flaw, text_in}
use Rattle.records_import.specs.declared.action.Action.{Action}
use Rattle.records_import.specs.declared.header.Column.{Column}
use Rattle.records_import.specs.declared.header.Column.TheVariants as holds
use Rattle.records_import.specs.declared.refusal.RecordError.{RecordError}
use Rattle.records_import.specs.declared.refusal.RecordError.TheVariants.{Field, Header, Length, TooMany}
use Rattle.share_asks.specs.Valid.{IsValidReason, IsValidRefusal}

-- ---- cells

abbrev IsSound : Option RecordWhy → Type 0
IsSound None = ⊤
IsSound (Some why) = IsValidReason why

id_sound : (least : ℕ) (o : Option ℕ) → IsSound (flaw_of (id_from least o))
id_sound least None = tt
id_sound least (Some n) = by_range (nat_le least n && nat_lt n (2 ^ 32))
  where
    by_range : (b : Bool) → IsSound (flaw_of (if b then Ok n else Err reason.Range))
    by_range true = tt
    by_range false = tt

needed_sound : (least : ℕ) (cell : List ℕ) → IsSound (flaw_of (needed_id least cell))
needed_sound least [] = tt
needed_sound least (b ∷ bytes) = id_sound least (cell_number (b ∷ bytes))

number_sound : (p : Property) (o : Option ℕ) → IsSound (flaw_of (number_from p o))
number_sound p None = tt
number_sound p (Some n) = by_range (is_value_of p (value.Number n))
  where
    by_range : (b : Bool) → IsSound (flaw_of (if b then Ok (value.Number n) else Err reason.Range))
    by_range true = tt
    by_range false = tt

text_sound : (cell : List ℕ) → IsSound (flaw_of (text_in cell))
text_sound cell = by_text (is_utf8 cell && nat_le (length cell) text_limit)
  where
    by_text : (b : Bool) → IsSound (flaw_of (if b then Ok (value.Text cell) else Err reason.Text))
    by_text true = tt
    by_text false = tt

kind_sound : (k : Kind) (p : Property) (cell : List ℕ) → IsSound (flaw_of (by_kind k p cell))
kind_sound kind.Text p cell = text_sound cell
kind_sound kind.U8 p cell = number_sound p (cell_number cell)
kind_sound kind.I8 p cell = number_sound p (cell_number cell)
kind_sound kind.U16 p cell = number_sound p (cell_number cell)
kind_sound kind.I16 p cell = number_sound p (cell_number cell)
kind_sound kind.U32 p cell = number_sound p (cell_number cell)
kind_sound kind.I32 p cell = number_sound p (cell_number cell)
kind_sound kind.U64 p cell = number_sound p (cell_number cell)
kind_sound kind.I64 p cell = number_sound p (cell_number cell)
kind_sound kind.Date p cell = number_sound p (cell_number cell)
kind_sound kind.Version p cell = number_sound p (cell_number cell)
kind_sound kind.List p cell = number_sound p (cell_number cell)
kind_sound kind.Opaque p cell = number_sound p (cell_number cell)

property_sound : (p : Property) (cell : List ℕ) → IsSound (property_flaw p cell)
property_sound p [] = tt
property_sound p (b ∷ bytes) = kind_sound (property_kind p) p (b ∷ bytes)

read_sound : (cell : List ℕ) (flaw : Option RecordWhy) → ReadFlaw cell flaw → IsSound flaw
read_sound cell None h = tt
read_sound cell (Some (reason.Query error)) h = λ e. h.0 (ap {A = QueryError} {B = Result Query QueryError} (λ x. Err x) e)
read_sound cell (Some reason.Op) h = absurd h
read_sound cell (Some reason.Kind) h = absurd h
read_sound cell (Some reason.Number) h = absurd h
read_sound cell (Some reason.Range) h = absurd h
read_sound cell (Some reason.Text) h = absurd h
read_sound cell (Some reason.Extra) h = absurd h
read_sound cell (Some reason.Missing) h = absurd h

as_text_sound : (b : Bool) (cell : List ℕ) (flaw : Option RecordWhy) → TextFlaw b cell flaw → IsSound flaw
as_text_sound true cell flaw h = read_sound cell flaw h
as_text_sound false cell flaw h = subst IsSound (sym h) tt

rule_sound : (cell : List ℕ) (flaw : Option RecordWhy) → RuleFlaw cell flaw → IsSound flaw
rule_sound [] flaw h = subst IsSound (sym h) tt
rule_sound (b ∷ bytes) flaw h = as_text_sound (is_utf8 (b ∷ bytes)) (b ∷ bytes) flaw h

used_sound : (c : Column) (cell : List ℕ) (flaw : Option RecordWhy) → UsedFlaw c cell flaw → IsSound flaw
used_sound (holds.Property p) cell flaw h = subst IsSound (sym h) (property_sound p cell)
used_sound holds.Query cell flaw h = rule_sound cell flaw h
used_sound holds.List cell flaw h = subst IsSound (sym h) (needed_sound 2 cell)
used_sound holds.Item cell flaw h = subst IsSound (sym h) (needed_sound 1 cell)

cell_sound : (used : Bool) (c : Column) (cell : List ℕ) (flaw : Option RecordWhy) → FlawBy used c cell flaw → IsSound flaw
cell_sound true c cell flaw h = used_sound c cell flaw h
cell_sound false c [] flaw h = subst IsSound (sym h) tt
cell_sound false c (b ∷ bytes) flaw h = subst IsSound (sym h) tt

-- ---- a record

same : {A : Type 0} (a b : RecordError) → ◌≡◌ {A = Result A RecordError} (Err a) (Err b) → IsValidRefusal b → IsValidRefusal a
same {A} a b is h = let e : a ≡ b = cc is in subst IsValidRefusal (sym e) h

leftmost_valid : (action : Action) (row place : ℕ) (columns : List Column) (cells : Cells) (fault : RecordError) → IsLeftmost action row place columns cells fault → IsValidRefusal fault
leftmost_valid action row place [] cells fault h = absurd h
leftmost_valid action row place (c ∷ columns) [] fault h = absurd h
leftmost_valid action row place (c ∷ columns) (cell ∷ cells) fault (inl (why, flaw, is)) = subst IsValidRefusal (sym is) (cell_sound (uses action c) c cell (Some why) flaw)
leftmost_valid action row place (c ∷ columns) (cell ∷ cells) fault (inr (none, more)) = leftmost_valid action row (suc place) columns cells fault more

further_valid : (action : Action) (row id : ℕ) (columns : List Column) (cells : Cells) (fault : RecordError) → FurtherAnswer action row id columns cells (Err fault) → IsValidRefusal fault
further_valid action row id columns cells fault (inl left) = leftmost_valid action row 4 columns cells fault left
further_valid action row id columns cells fault (inr (sound, lacks, is)) = subst IsValidRefusal (sym is) tt

id_valid : (action : Action) (row : ℕ) (columns : List Column) (cells : Cells) (r : Result ℕ RecordWhy) (fault : RecordError) → IsSound (flaw_of r)
    → WithId action row columns cells r (Err fault) → IsValidRefusal fault
id_valid action row columns cells (Ok id) fault sound h = further_valid action row id columns cells fault h
id_valid action row columns cells (Err why) fault sound h = same fault (Field row 3 why) h sound

or_valid : (row : ℕ) (o : Option Action) → IfErr (or_fault (Field row 2 reason.Kind) o) IsValidRefusal
or_valid row None = tt
or_valid row (Some action) = tt

action_found : (row : ℕ) (op cell : List ℕ) → IfErr (action_of row op cell) IsValidRefusal
action_found row op cell = by_op (bytes_eq op (codes "put")) (bytes_eq op (codes "drop"))
  where
    by_op : (put drops : Bool)
        → IfErr (if put then or_fault (Field row 2 reason.Kind) (put_of_kind cell) else (if drops then or_fault (Field row 2 reason.Kind) (drop_of_kind cell) else Err (Field row 1 reason.Op))) IsValidRefusal
    by_op true drops = or_valid row (put_of_kind cell)
    by_op false true = or_valid row (drop_of_kind cell)
    by_op false false = tt

action_valid : (row : ℕ) (columns : List Column) (cells : Cells) (r : Result Action RecordError) (fault : RecordError) → IfErr r IsValidRefusal
    → WithAction row columns cells r (Err fault) → IsValidRefusal fault
action_valid row columns cells (Ok action) fault found h =
    id_valid action row columns (drop 3 cells) (id_in (least_id action) (get_or cells 2 [])) fault (id_sound (least_id action) (cell_number (get_or cells 2 []))) h
action_valid row columns cells (Err other) fault found h = same fault other h found

length_valid : (b : Bool) (row : ℕ) (columns : List Column) (cells : Cells) (fault : RecordError) → OfLength b row columns cells (Err fault) → IsValidRefusal fault
length_valid true row columns cells fault h =
    action_valid row columns cells (action_of row (get_or cells 0 []) (get_or cells 1 [])) fault (action_found row (get_or cells 0 []) (get_or cells 1 [])) h
length_valid false row columns cells fault h = same fault (Length row) h tt

within_valid : (b : Bool) (row : ℕ) (columns : List Column) (cells : Cells) (fault : RecordError) → WithinBatch b row columns cells (Err fault) → IsValidRefusal fault
within_valid true row columns cells fault h = length_valid (length cells == length columns + 3) row columns cells fault h
within_valid false row columns cells fault h = same fault (TooMany row) h tt

-- ---- all records

records_valid : (columns : List Column) (row : ℕ) (records : List Cells) (fault : RecordError) → RecordsAnswer columns row records (Err fault) → IsValidRefusal fault
records_valid columns row [] fault h = absurd h
records_valid columns row (cells ∷ records) fault (inl here) = within_valid (nat_lt row (suc most_records)) row columns cells fault here
records_valid columns row (cells ∷ records) fault (inr (edit, here, later)) = records_valid columns (suc row) records fault later

columns_valid : (place : ℕ) (known : List Column) (names : Cells) → IfErr (columns_of place known names) IsValidRefusal
columns_valid place known [] = tt
columns_valid place known (name ∷ names) = next (unless_known known (column_named name)) (λ column. columns_valid (suc place) (known ++ column ∷ []) names)
  where
    next : (o : Option Column) → ((column : Column) → IfErr (columns_of (suc place) (known ++ column ∷ []) names) IsValidRefusal)
        → IfErr (elim o [
          | None ↦ Err (Header place)
          | Some column ↦ columns_of (suc place) (known ++ column ∷ []) names
        ]) IsValidRefusal
    next None rest = tt
    next (Some column) rest = rest column

header_valid : (cells : Cells) → IfErr (header_of cells) IsValidRefusal
header_valid cells = by_name (is_named cells 0 (codes "op")) (is_named cells 1 (codes "kind")) (is_named cells 2 (codes "id"))
  where
    by_name : (op what id : Bool)
        → IfErr (if op then (if what then (if id then columns_of 4 [] (drop 3 cells) else Err (Header 3)) else Err (Header 2)) else Err (Header 1)) IsValidRefusal
    by_name true true true = columns_valid 4 [] (drop 3 cells)
    by_name true true false = tt
    by_name true false id = tt
    by_name false what id = tt

under_valid : (header : Result (List Column) RecordError) (records : List Cells) (fault : RecordError) → IfErr header IsValidRefusal
    → UnderHeader header records (Err fault) → IsValidRefusal fault
under_valid (Ok columns) records fault h answer = records_valid columns 1 records fault answer
under_valid (Err other) records fault h answer = same fault other answer h

pub refusal_valid : (rows : List Cells) (fault : RecordError) → BatchReads rows (Err fault) → IsValidRefusal fault
unfolding BatchReads
refusal_valid [] fault h = absurd (cc h)
refusal_valid (header ∷ records) fault h = under_valid (header_of header) records fault (header_valid header) h
