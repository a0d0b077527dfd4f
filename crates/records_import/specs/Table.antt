-- Rows of cells as comma separated text: the rows of a text, and the text of rows.
use Rattle.std.specs.Prelude.{◌≡◌, ℕ, List, [], ◌∷◌, ◌++◌}
use Rattle.csv.specs.Reading.{default_config, records, strip_bom}
use Rattle.csv.specs.Writing.{default_writer, row_text}

-- a row is its cells, and a cell is its bytes
abbrev pub Cells : Type 0
Cells = List (List ℕ)

-- the rows of a text in the default form of `csv`: a byte order mark at its start is skipped, CR, LF and CR LF each
-- end a row, a blank line is not a row, and a cell may be in quotes
unfoldable pub table_of : List ℕ → List Cells
table_of text = records default_config (strip_bom text)

-- rows as `csv` writes them by default: one line for each, ended by a line feed, and with quotes if a cell needs them
unfoldable pub table_text : List Cells → List ℕ
table_text [] = []
table_text (row ∷ rows) = row_text default_writer row ++ table_text rows

-- a row that has a cell; one without is written as one empty cell
abbrev pub HasCell : Cells → Type 0
HasCell [] = ⊥
HasCell (cell ∷ cells) = Unit {0}

-- a text that does not begin with a byte order mark
abbrev pub IsUnmarked : List ℕ → Type 0
IsUnmarked text = strip_bom text ≡ text
