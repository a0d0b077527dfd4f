use Rattle.std.proofs.Common.{◌≡◌, ◌<◌, ◌+◌, ◌∙◌, ◌++◌, Global, List, Result, Ok, Err, Vec, ℕ, length, map, take, get_or, sym, ap, arith}
use Rattle.std.specs.Prelude.{All, IfOk}
use Rattle.std.proofs.lemmas.List.{map_more, take_all}
use Rattle.csv.specs.Records.{fields_of}
use Rattle.csv.specs.Writing.{default_writer, row_text}
use Rattle.records_import.specs.Table.{Cells, HasCell, IsUnmarked, table_of, table_text}
use Rattle.records_import.proofs.ReadBack.{reads_back}
use Rattle.records_import.proofs.Written.{table_text_more}
use Rattle.records_import.proofs.table_text.write_rows.Goals as goal

pub loop-row-init : goal.loop-row-init
unfolding table_text
loop-row-init c = c.table_writer-writer.ensures

-- one more row is written
pub loop-row-preserved : goal.loop-row-preserved
loop-row-preserved c =
    let rows = c.args.rows.now in
    let i = c.loop-row.row-index in
    let inside : i < length rows = omega arith in
    let told = rw c.in_ok-write_row.was at (c.write_row.ensures (table_text (map fields_of (take i rows))) c.loop-row.invariant) in
    let more : table_text (map fields_of (take (i + 1) rows)) ≡ table_text (map fields_of (take i rows)) ++ row_text default_writer (fields_of c.row-item.result) =
    ap table_text (map_more fields_of rows i c.row-item.result inside)
    ∙ table_text_more (map fields_of (take i rows)) (fields_of (get_or rows i c.row-item.result))
    ∙ ap (λ row. table_text (map fields_of (take i rows)) ++ row_text default_writer (fields_of row)) (sym c.row-item.is) in
    rw more told

-- the rows' text reads back as the rows
back : {E : Type 0} (result : Result (Vec ℕ Global) E) (rows : List Cells) → IfOk result (λ v. v.items ≡ table_text rows)
    → IfOk result (λ v. All HasCell rows → IsUnmarked v.items → table_of v.items ≡ rows)
back (Ok v) rows written = λ celled unmarked. rw written (reads_back rows celled (rw written at unmarked))
back (Err e) rows written = tt

pub returns-clause-reads_back : goal.returns-clause-reads_back
returns-clause-reads_back c =
    let rows = c.args.rows.now in
    let whole = take_all c.loop-row.row-index rows c.loop-row-test.false in
    back c.written_text.result (map fields_of rows) (rw whole at (c.written_text.ensures (table_text (map fields_of (take c.loop-row.row-index rows))) c.loop-row.invariant))
