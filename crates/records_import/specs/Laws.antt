-- Theorems about all rows that follow from the definitions.
use Rattle.std.specs.Prelude.{◌≡◌, ◌≢◌, List, Result, Ok, Err}
use Rattle.item_model.specs.declared.changes.Edit.{Edit}
use Rattle.records_import.specs.Records.{BatchReads}
use Rattle.records_import.specs.Table.{Cells}
use Rattle.records_import.specs.declared.refusal.RecordError.{RecordError}
use Rattle.records_import.specs.declared.refusal.RecordError.TheVariants.{Memory}

-- rows read as at most one batch
abbrev pub RowsReadOnce : Type 0
RowsReadOnce = (rows : List Cells) (a b : List Edit) → BatchReads rows (Ok a) → BatchReads rows (Ok b) → a ≡ b

-- rows have a result other than out of memory
abbrev pub RowsHaveAnswers : Type 0
RowsHaveAnswers = (rows : List Cells) → (answer : Result (List Edit) RecordError) × (answer ≢ Err Memory) × BatchReads rows answer

-- and no other one
abbrev pub AnswersAreOne : Type 0
AnswersAreOne = (rows : List Cells) (a b : Result (List Edit) RecordError) → BatchReads rows a → BatchReads rows b → a ≡ b
