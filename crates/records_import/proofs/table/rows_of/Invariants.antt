use Rattle.std.proofs.Common.{◌≡◌, ℕ, List, Some, length, map}
use Rattle.csv.specs.Reading.{Reached, Ready, default_config, reader_config, reader_state, reader_trim, source_of, strip_bom}
use Rattle.csv.specs.Records.{fields_of}
use Rattle.csv.specs.declared.parser.State.TheVariants as st
use Rattle.csv.specs.declared.reader.Trim.TheVariants as trim
use Rattle.records_import.proofs.table.rows_of.Given as goal

abbrev pub invariant-rows : goal.invariant-rows
invariant-rows l = (reader_trim l.reader ≡ trim.None) × Ready l.reader × (reader_config l.reader ≡ default_config)
    × (length l.rows.items ≡ l.counter)
    × (y : List ℕ) × (source_of (λ s. Some s.now) l.reader ≡ Some y)
    × Reached default_config st.StartRecord (strip_bom l.fn.text) (map fields_of l.rows.items) (reader_state l.reader) y
