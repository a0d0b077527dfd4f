-- The line of an error of records: which record, which column, and why.
use Rattle.std.specs.Prelude.{ℕ, List, [], ◌∷◌, ◌++◌, codes, decimal}
use Rattle.item_model.specs.declared.refusal.RecordWhy.{RecordWhy}
use Rattle.item_model.specs.declared.refusal.RecordWhy.TheVariants.{Op, Kind, Number, Range, Text, Extra, Missing, Query}
use Rattle.records_import.specs.declared.refusal.RecordError.{RecordError}
use Rattle.records_import.specs.declared.refusal.RecordError.TheVariants.{Header, Field, Length, TooMany, Memory}
use Rattle.fault_lines.specs.Queries.{query_text}

abbrev pub cell_reason : RecordWhy → List ℕ
cell_reason Op = codes "op"
cell_reason Kind = codes "kind"
cell_reason Number = codes "number"
cell_reason Range = codes "range"
cell_reason Text = codes "text"
cell_reason Extra = codes "extra"
cell_reason Missing = codes "missing"
cell_reason (Query error) = query_text error

-- the line without its end
abbrev pub records_text : RecordError → List ℕ
records_text (Header column) = codes "records: header column " ++ decimal column
records_text (Field row column reason) =
    codes "records: record " ++ decimal row ++ codes " column " ++ decimal column ++ codes " " ++ cell_reason reason
records_text (Length row) = codes "records: record " ++ decimal row ++ codes " length"
records_text (TooMany row) = codes "records: record " ++ decimal row ++ codes " too many"
records_text Memory = codes "memory"

abbrev pub records_line : RecordError → List ℕ
records_line error = records_text error ++ 10 ∷ []
