use Rattle.std.proofs.Common.{◌≡◌, ◌<◌, ◌≤◌, ◌+◌, ◌∙◌, ◌∷◌, ◌++◌, [], ℕ, suc, Option, Some, None, List, Result, Err, ap, drop, get_or, length, refl, sym, arith, rules}
use Rattle.std.proofs.lemmas.List.{drop_all, drop_more}
use Rattle.csv.specs.Records.{fields_of}
use Rattle.records_import.specs.Columns.{column_named, columns_of, unless_known}
use Rattle.records_import.specs.Table.{Cells}
use Rattle.records_import.specs.declared.header.Column.{Column}
use Rattle.records_import.specs.declared.refusal.RecordError.{RecordError}
use Rattle.records_import.specs.declared.refusal.RecordError.TheVariants.{Header}
use Rattle.records_import.proofs.header.further_columns.Goals as goal

-- the columns by what the next name is
abbrev after_name : ℕ → List Column → Cells → Option Column → Result (List Column) RecordError
after_name place known names None = Err (Header place)
after_name place known names (Some column) = columns_of (suc place) (known ++ column ∷ []) names

next_name : (place : ℕ) (known : List Column) (cells : Cells) (i : ℕ) (found : Option Column) → i < length cells
    → unless_known known (column_named (get_or cells i [])) ≡ found
    → columns_of place known (drop i cells) ≡ after_name place known (drop (i + 1) cells) found
next_name place known cells i found inside new =
    ap (columns_of place known) (drop_more cells i [] inside) ∙ ap (after_name place known (drop (i + 1) cells)) new

pub returns-in_err-push-in-Some : goal.returns-in_err-push-in-Some
returns-in_err-push-in-Some c = search rules

-- one more column
pub names-preserved : goal.names-preserved
names-preserved c =
    let inside : c.names.place < length (fields_of c.args.cells.now) = omega (arith, c.width-place-end.ensures) in
    let new = rw (c.as_slice.ensures.value, c.cell.ensures) at (sym c.new_column.ensures ∙ c.in-Some.is) in
    let next : c.names.place + 1 + 1 ≡ suc (c.names.place + 1) = omega arith in
    rw (next, c.in_ok-push-in-Some.ensures.items)
    (sym (next_name (c.names.place + 1) c.names.columns.items (fields_of c.args.cells.now) c.names.place (Some c.in-Some.column) inside new) ∙ c.names.invariant)

-- the name is not a new column's
pub returns-in-None : goal.returns-in-None
returns-in-None c _ =
    let inside : c.names.place < length (fields_of c.args.cells.now) = omega (arith, c.width-place-end.ensures) in
    let known = rw (c.as_slice.ensures.value, c.cell.ensures) at (sym c.new_column.ensures ∙ c.in-None.is) in
    sym c.names.invariant ∙ next_name (c.names.place + 1) c.names.columns.items (fields_of c.args.cells.now) c.names.place None inside known

pub returns : goal.returns
returns c =
    let past : length (fields_of c.args.cells.now) ≤ c.names.place = omega (arith, c.width-place-end.ensures, c.names-test.false) in
    sym c.names.invariant ∙ rw (drop_all c.names.place (fields_of c.args.cells.now) past) refl
