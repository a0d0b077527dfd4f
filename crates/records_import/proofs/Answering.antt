-- The results of records, one after another.
use Rattle.std.proofs.Common.{◌≢◌, MatchResult, ◌≡◌, ◌≤◌, ◌<◌, ◌+◌, ◌∷◌, ◌++◌, ◌∙◌, [], ℕ, zero, suc, List, inl, inr, Result, Ok, Err, refl, sym, ap, subst, length, take, get_or, drop, map, nat_lt, append_assoc, append-nil, arith}
use Rattle.std.proofs.lemmas.Bool.{cases_Bool, ltb-true}
use Rattle.std.proofs.lemmas.List.{drop_all, drop_more}
use Rattle.csv.specs.Records.{fields_of}
use Rattle.csv.specs.declared.record.ByteRecord.{ByteRecord}
use Rattle.item_model.specs.declared.changes.Edit.{Edit}
use Rattle.records_import.specs.Columns.{header_of}
use Rattle.records_import.specs.Records.{BatchReads, RecordAnswers, RecordsAnswer, UnderHeader}
use Rattle.records_import.specs.Table.{Cells}
use Rattle.records_import.specs.Limits.{most_records}
use Rattle.records_import.specs.declared.header.Column.{Column}
use Rattle.records_import.specs.declared.refusal.RecordError.{RecordError}
use Rattle.records_import.specs.declared.refusal.RecordError.TheVariants.{Memory, TooMany}

-- edits before those of further records
abbrev pub behind : List Edit → Result (List Edit) RecordError → Result (List Edit) RecordError
behind edits (Ok rest) = Ok (edits ++ rest)
behind edits (Err fault) = Err fault

-- no edits come before the first
pub behind_none : (columns : List Column) (row : ℕ) (records : List Cells) (answer : Result (List Edit) RecordError)
    → RecordsAnswer columns row records answer → RecordsAnswer columns row records (behind [] answer)
behind_none columns row records (Ok edits) h = h
behind_none columns row records (Err fault) h = h

-- one more edit
pub behind_more : (columns : List Column) (row : ℕ) (cells : Cells) (records all : List Cells) (edits : List Edit) (edit : Edit)
    → ((answer : Result (List Edit) RecordError) → RecordsAnswer columns row (cells ∷ records) answer → RecordsAnswer columns 1 all (behind edits answer))
    → RecordAnswers columns row cells (Ok edit)
    → (answer : Result (List Edit) RecordError) → RecordsAnswer columns (suc row) records answer → RecordsAnswer columns 1 all (behind (edits ++ edit ∷ []) answer)
behind_more columns row cells records all edits edit told here (Ok rest) h =
    rw append_assoc (told (Ok (edit ∷ rest)) (edit, rest, here, h, refl))
behind_more columns row cells records all edits edit told here (Err fault) h = told (Err fault) (inr (edit, here, h))

-- of more records than a batch has, one more than it has determines the result
enough : (columns : List Column) (row k : ℕ) (records : List Cells) (answer : Result (List Edit) RecordError) → row ≤ most_records + 1 → row + k ≡ most_records + 2
    → RecordsAnswer columns row (take k records) answer → RecordsAnswer columns row records answer
enough columns row zero records answer below count h = absurd (omega arith)
enough columns row (suc k) [] answer below count h = h
enough columns row (suc k) (cells ∷ records) (Ok edits) below count h = elim (cases_Bool (nat_lt row (suc most_records))) [
  | inl within ↦
      let lower : row < suc most_records = ltb-true row (suc most_records) within in
      (h.0, h.1, h.2, enough columns (suc row) k records (Ok h.1) (omega arith) (omega arith) h.3, h.4)
  | inr past ↦
      let none : ◌≡◌ {A = Result Edit RecordError} (Ok h.0) (Err (TooMany row)) = rw past at h.2 in
      absurd (cc none)
]
enough columns row (suc k) (cells ∷ records) (Err fault) below count h = elim h [
  | inl here ↦ inl here
  | inr later ↦ elim (cases_Bool (nat_lt row (suc most_records))) [
    | inl within ↦
        let lower : row < suc most_records = ltb-true row (suc most_records) within in
        inr (later.0, later.1, enough columns (suc row) k records (Err fault) (omega arith) (omega arith) later.2)
    | inr past ↦
        let none : ◌≡◌ {A = Result Edit RecordError} (Ok later.0) (Err (TooMany row)) = rw past at later.1 in
        absurd (cc none)
  ]
]

under_enough : (header : Result (List Column) RecordError) (records : List Cells) (answer : Result (List Edit) RecordError)
    → UnderHeader header (take (most_records + 1) records) answer → UnderHeader header records answer
under_enough (Ok columns) records answer h = enough columns 1 (most_records + 1) records answer (omega arith) (omega arith) h
under_enough (Err fault) records answer h = h

-- so the result of the first rows is that of all
pub first_enough : (rows : List Cells) (answer : Result (List Edit) RecordError) → BatchReads (take (most_records + 2) rows) answer → BatchReads rows answer
unfolding BatchReads
first_enough [] answer h = h
first_enough (header ∷ records) answer h = under_enough (header_of header) records answer h

-- the result is that of the rows
abbrev pub Told : List Cells → Result (List Edit) RecordError → Type 0
Told rows result = MatchResult result (λ edits. BatchReads rows (Ok edits)) (λ fault. fault ≢ Memory → BatchReads rows (Err fault))

pub whole_told : (rows first : List Cells) (result : Result (List Edit) RecordError) → first ≡ take (most_records + 2) rows → Told first result → Told rows result
whole_told rows first (Ok edits) e h = first_enough rows (Ok edits) (subst (λ some. BatchReads some (Ok edits)) e h)
whole_told rows first (Err fault) e h = λ other. first_enough rows (Err fault) (subst (λ some. BatchReads some (Err fault)) e (h other))

-- the records from an index on are the one there and those after it
records_at : (records : List ByteRecord) (i : ℕ) (r : ByteRecord) → i < length records → r ≡ get_or records i r
    → map fields_of (drop i records) ≡ fields_of r ∷ map fields_of (drop (i + 1) records)
records_at records i r inside here =
    ap (map fields_of) (drop_more records i r inside) ∙ ap (λ x. fields_of x ∷ map fields_of (drop (i + 1) records)) (sym here)

-- the record at an index is malformed
pub fault_here : (columns : List Column) (records : List ByteRecord) (i : ℕ) (r : ByteRecord) (fault : RecordError) → i < length records → r ≡ get_or records i r
    → RecordAnswers columns (i + 1) (fields_of r) (Err fault) → RecordsAnswer columns (i + 1) (map fields_of (drop i records)) (Err fault)
fault_here columns records i r fault inside here told =
    subst (λ rows. RecordsAnswer columns (i + 1) rows (Err fault)) (sym (records_at records i r inside here)) (inl told)

-- the record at an index adds one edit
pub edit_more : (columns : List Column) (records : List ByteRecord) (i : ℕ) (r : ByteRecord) (edits later : List Edit) (edit : Edit) → i < length records → r ≡ get_or records i r
    → RecordAnswers columns (i + 1) (fields_of r) (Ok edit)
    → ((answer : Result (List Edit) RecordError) → RecordsAnswer columns (i + 1) (map fields_of (drop i records)) answer → RecordsAnswer columns 1 (map fields_of records) (behind edits answer))
    → later ≡ edits ++ edit ∷ []
    → (answer : Result (List Edit) RecordError) → RecordsAnswer columns (i + 1 + 1) (map fields_of (drop (i + 1) records)) answer → RecordsAnswer columns 1 (map fields_of records) (behind later answer)
edit_more columns records i r edits later edit inside here told before e answer h =
    let next : i + 1 + 1 ≡ suc (i + 1) = omega arith in
    let moved = rw next at h in
    rw e (behind_more columns (i + 1) (fields_of r) (map fields_of (drop (i + 1) records)) (map fields_of records) edits edit
    (λ a more. before a (subst (λ rows. RecordsAnswer columns (i + 1) rows a) (sym (records_at records i r inside here)) more)) told answer moved)

-- all records are edits
pub edits_all : (columns : List Column) (records : List ByteRecord) (i : ℕ) (edits : List Edit) → length records ≤ i
    → ((answer : Result (List Edit) RecordError) → RecordsAnswer columns (i + 1) (map fields_of (drop i records)) answer → RecordsAnswer columns 1 (map fields_of records) (behind edits answer))
    → RecordsAnswer columns 1 (map fields_of records) (Ok edits)
edits_all columns records i edits past before = rw append-nil at (before (Ok []) (rw (drop_all i records past) refl))
