-- A writer between two rows, with the text so far, and a row that is being filled.
use Rattle.std.specs.Prelude.{◌≡◌, ℕ, List, [], Option, Some, true, false}
use Rattle.csv.specs.Records.{Row, fields_of, partial_of}
use Rattle.csv.specs.Writing.{default_writer, fields_written, has_written, text_written, with_flexible, writer_setup}
use Rattle.csv.specs.declared.writer.Writer.{Writer}
use Rattle.records_import.specs.Table.{Cells}

-- the writer is between rows, writes in the default form with rows of any width, and has written this text
pub record HasWritten {W : Type 0} (contents : W → Option (List ℕ)) (writer : Writer W) (text : List ℕ) : Type 0 where
  pub written : text_written contents writer ≡ Some text
  pub no_cell : fields_written writer ≡ 0
  pub no_byte : has_written writer ≡ false
  pub setup : writer_setup writer ≡ with_flexible default_writer true

-- the row has these cells, and no further one is begun
pub record HasCells (row : Row) (cells : Cells) : Type 0 where
  pub fields : fields_of row ≡ cells
  pub no_byte : partial_of row ≡ []
