use Rattle.std.proofs.Common.{◌≡◌, ◌+◌, [], drop}
use Rattle.csv.specs.Records.{fields_of}
use Rattle.records_import.specs.Columns.{columns_of}
use Rattle.records_import.proofs.header.further_columns.Given as goal

-- the columns so far and those of the names left are all columns
abbrev pub invariant-names : goal.invariant-names
invariant-names l = columns_of (l.place + 1) l.columns.items (drop l.place (fields_of l.cells)) ≡ columns_of 4 [] (drop 3 (fields_of l.cells))
