-- A writer for rows of any width writes a row as the default one does.
use Rattle.std.proofs.Common.{◌≡◌, ◌∷◌, ◌++◌, ◌∙◌, [], ℕ, List, Some, None, Option, true, false, refl, sym, ap, append_assoc, append-nil}
use Rattle.csv.specs.Writing.{default_writer, escaped, field_text, fields_text, fields_written, has_written, is_blank, row_text, text_written, with_flexible, writer_setup}
use Rattle.csv.specs.declared.writer.WriterBuilder.{WriterBuilder}
use Rattle.csv.specs.declared.writer.Writer.{Writer}
use Rattle.csv.specs.declared.writer.QuoteStyle.TheVariants as style
use Rattle.std.specs.Io.KnownBytes.{Appends}
use Rattle.std.specs.Prelude.{◌≢◌}
use Rattle.records_import.specs.Table.{Cells, table_text}
use Rattle.records_import.specs.Writing.{HasWritten}

-- the writer's setup
abbrev flexible_writer : WriterBuilder
flexible_writer = with_flexible default_writer true

escaped_same : (cell : List ℕ) → escaped flexible_writer cell ≡ escaped default_writer cell
unfolding escaped
escaped_same [] = refl
escaped_same (b ∷ rest) = rw (escaped_same rest) refl

field_same : (cell : List ℕ) → field_text flexible_writer cell ≡ field_text default_writer cell
field_same cell = rw (escaped_same cell) refl

fields_same : (cells : List (List ℕ)) → fields_text flexible_writer cells ≡ fields_text default_writer cells
unfolding fields_text
fields_same [] = refl
fields_same (cell ∷ cells) = rw (escaped_same cell, fields_same cells) refl

-- a row's text is the same
pub row_same : (cells : List (List ℕ)) → row_text flexible_writer cells ≡ row_text default_writer cells
unfolding is_blank
row_same [] = refl
row_same (cell ∷ []) = rw (escaped_same cell, fields_same []) refl
row_same (cell ∷ next ∷ cells) = rw (escaped_same cell, fields_same (next ∷ cells)) refl

-- the text of one more row
pub table_text_more : (rows : List Cells) (row : Cells) → table_text (rows ++ (row ∷ [])) ≡ table_text rows ++ row_text default_writer row
unfolding table_text
table_text_more [] row = append-nil (row_text default_writer row)
table_text_more (first ∷ rows) row =
    ap (λ (t : List ℕ). row_text default_writer first ++ t) (table_text_more rows row) ∙ sym (append_assoc (row_text default_writer first) (table_text rows) (row_text default_writer row))

-- bytes appended to known ones
appended : (before : List ℕ) (after : Option (List ℕ)) (bytes : List ℕ) → Appends (Some before) after bytes → after ≡ Some (before ++ bytes)
appended before None bytes h = absurd h
appended before (Some after) bytes h = ap Some h

-- one more row, by the contract of the writer of `csv`
pub row_written : {W : Type 0} (contents : W → Option (List ℕ)) (old new : Writer W) (text : List ℕ) (cells : Cells) → HasWritten contents old text
    → (fields_written old ≡ 0 → has_written old ≡ false → (writer_setup old).style ≢ style.NonNumeric
    → Appends (text_written contents old) (text_written contents new) (row_text (writer_setup old) cells))
    → fields_written new ≡ 0 → has_written new ≡ false → writer_setup new ≡ writer_setup old
    → HasWritten contents new (text ++ row_text default_writer cells)
row_written contents old new text cells had bytes cell byte setup =
    let plain : (writer_setup old).style ≢ style.NonNumeric = rw had.setup (λ e. cc e) in
    let told = rw (had.written, had.setup, row_same cells) at (bytes had.no_cell had.no_byte plain) in
    record { written = appended text (text_written contents new) (row_text default_writer cells) told; no_cell = cell; no_byte = byte; setup = setup ∙ had.setup }
