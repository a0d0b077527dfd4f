-- Rows that were written read back.
use Rattle.std.proofs.Common.{◌≡◌, ◌==◌, ◌∷◌, [], ℕ, suc, List, false, refl, sym, subst, arith, inl, inr}
use Rattle.std.proofs.lemmas.Bool.{cases_Bool}
use Rattle.csv.specs.Writing.{default_writer, needs_quotes}
use Rattle.std.specs.Prelude.{All}
use Rattle.csv.specs.Reading.{Reached, default_config, strip_bom}
use Rattle.csv.specs.Machine.{next_record}
use Rattle.csv.specs.declared.parser.State.TheVariants as st
use Rattle.csv.proofs.RoundTrip.{read-write-many, read-write-one}
use Rattle.records_import.specs.Table.{Cells, HasCell, IsUnmarked, table_of, table_text}
use Rattle.records_import.proofs.Rows.{all_rows}

-- what holds of each row holds of the first, and of each of the others
first_has : (row : Cells) (rows : List Cells) → All HasCell (row ∷ rows) → HasCell row
first_has row rows h = h 0 [] (omega arith)

others_have : (row : Cells) (rows : List Cells) → All HasCell (row ∷ rows) → All HasCell rows
others_have row rows h = λ k d below. h (suc k) d (omega arith)

-- from the start of the text of rows a reader reaches these rows, and nothing is left
reached_written : (rows : List Cells) → All HasCell rows → Reached default_config st.StartRecord (table_text rows) rows st.StartRecord []
unfolding Reached table_text
reached_written [] h = (refl, refl)
reached_written ([] ∷ rows) h = absurd (first_has [] rows h)
reached_written ((cell ∷ []) ∷ rows) h =
    ((cell ∷ [], st.StartRecord, table_text rows), read-write-one cell (table_text rows), refl, reached_written rows (others_have (cell ∷ []) rows h))
reached_written ((cell ∷ next ∷ cells) ∷ rows) h =
    ((cell ∷ next ∷ cells, st.StartRecord, table_text rows), read-write-many cell next cells (table_text rows), refl, reached_written rows (others_have (cell ∷ next ∷ cells) rows h))

-- rows that each have a cell, written without a byte order mark, read back
pub reads_back : (rows : List Cells) → All HasCell rows → IsUnmarked (table_text rows) → table_of (table_text rows) ≡ rows
unfolding next_record
reads_back rows celled unmarked =
    let reached = subst (λ (text : List ℕ). Reached default_config st.StartRecord text rows st.StartRecord []) (sym unmarked) (reached_written rows celled) in
    sym (all_rows st.StartRecord (table_text rows) [] rows reached refl)

-- a text that does not begin with a byte order mark's first byte has no such mark
pub unmarked : (first : ℕ) (rest : List ℕ) → (first == 0xEF) ≡ false → IsUnmarked (first ∷ rest)
unfolding strip_bom
unmarked first [] other = refl
unmarked first (b ∷ []) other = refl
unmarked first (b ∷ c ∷ rest) other = rw other refl

-- nor has the text of rows whose first cell begins with another byte
pub unmarked_table : (first : ℕ) (rest : List ℕ) (cells : Cells) (rows : List Cells) → (first == 0xEF) ≡ false
    → IsUnmarked (table_text (((first ∷ rest) ∷ cells) ∷ rows))
unfolding table_text
unmarked_table first rest cells rows other = elim (cases_Bool (needs_quotes default_writer (first ∷ rest))) [
  | inl quoted ↦ rw quoted (unmarked 34 _ refl)
  | inr plain ↦ rw plain (unmarked first _ other)
]
