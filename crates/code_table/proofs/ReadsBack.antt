-- A table is read back from its reply.
use Rattle.std.proofs.Common.{◌≡◌, ℕ, suc, List, [], ◌∷◌, ◌++◌, map, true, false, not, Option, Some, Result, Ok, Err, refl, sym, ap, subst, ◌∙◌, append_assoc}
use Rattle.std.specs.List.{All}
use Rattle.std.proofs.lemmas.Bool.{and_parts, or_parts, or_from, not-true, cond-false}
use Rattle.std.proofs.lemmas.List.{append-nil}
use Rattle.std.proofs.lemmas.List.Elements.{All-head, All-tail}
use Rattle.dmap_tags.specs.Codes.{Four, is_code}
use Rattle.dmap_tags.specs.Tree.{trees_of}
use Rattle.dmap_tags.specs.declared.kinds.Kind.{Kind}
use Rattle.dmap_tags.specs.declared.kinds.Kind.TheVariants as kind
use Rattle.code_table.specs.declared.reply.CodeError.{CodeError}
use Rattle.code_table.specs.declared.reply.CodeError.TheVariants.{Repeated}
use Rattle.code_table.specs.declared.row.CodeRow.{CodeRow}
use Rattle.code_table.specs.Rows.{is_coded, codes_differ}
use Rattle.code_table.specs.Reply.{number_of, numbered, type_of, typed_by, entry_of, entry_row, row_more, rows_from, table_reply, table_of}
use Rattle.code_table.proofs.Tellings.{same_swap}

-- a kind is read back from its number, opaque from 0
type_back : (k : Kind) → typed_by (type_of k) ≡ k
type_back kind.U8 = refl
type_back kind.I8 = refl
type_back kind.U16 = refl
type_back kind.I16 = refl
type_back kind.U32 = refl
type_back kind.I32 = refl
type_back kind.U64 = refl
type_back kind.I64 = refl
type_back kind.Text = refl
type_back kind.Date = refl
type_back kind.Version = refl
type_back kind.List = refl
type_back kind.Opaque = refl

-- a row is its code, its name and its kind
row_is : (row : CodeRow) (c : Four) (k : Kind) → c ≡ row.code → k ≡ row.kind → Some (record { code = c; name = row.name; kind = k }) ≡ Some row
row_is row c k is same = ap (λ x. Some (record { code = x; name = row.name; kind = k })) is ∙ ap (λ x. Some (record { code = row.code; name = row.name; kind = x })) same

-- an entry has the row of which it was made
pub entry_back : (row : CodeRow) → numbered (number_of row.code) ≡ row.code → entry_row (entry_of row) ≡ Some row
entry_back row back = row_is row (numbered (number_of row.code)) (typed_by (type_of row.kind)) back (type_back row.kind)

-- if no row has the code, the row in the middle has another
other_between : (c : Four) (before : List CodeRow) (row : CodeRow) (rows : List CodeRow) → is_coded c (before ++ row ∷ rows) ≡ false → is_code row.code c ≡ false
other_between c [] row rows h = (or_parts (is_code row.code c) (is_coded c rows) h).0
other_between c (r ∷ before) row rows h = other_between c before row rows (or_parts (is_code r.code c) (is_coded c (before ++ row ∷ rows)) h).1

-- if all codes differ, no earlier row has the code of a later one
new_between : (before : List CodeRow) (row : CodeRow) (rows : List CodeRow) → codes_differ (before ++ row ∷ rows) ≡ true → is_coded row.code before ≡ false
new_between [] row rows h = refl
new_between (r ∷ before) row rows h =
    let parts = and_parts (not (is_coded r.code (before ++ row ∷ rows))) (codes_differ (before ++ row ∷ rows)) h in
    let other = other_between r.code before row rows (not-true (is_coded r.code (before ++ row ∷ rows)) parts.0) in
    or_from (is_code r.code row.code) (is_coded row.code before) (same_swap r.code row.code ∙ other) (new_between before row rows parts.1)

-- a row with a new code is added
row_new : (index : ℕ) (rows : List CodeRow) (row : CodeRow) (o : Option CodeRow) (next : List CodeRow → Result (List CodeRow) CodeError) → o ≡ Some row → is_coded row.code rows ≡ false → row_more index rows o next ≡ next (rows ++ row ∷ [])
row_new index rows row o next is new = subst (λ x. row_more index rows x next ≡ next (rows ++ row ∷ [])) (sym is) (cond-false (is_coded row.code rows) (Err (Repeated index)) (next (rows ++ row ∷ [])) new)

-- an entry from which its row is read back
abbrev pub ReadsBack : CodeRow → Type 0
ReadsBack row = entry_row (entry_of row) ≡ Some row

-- the entries of rows, after those before them, are read as these rows
rows_back : (index : ℕ) (before rows : List CodeRow) → codes_differ (before ++ rows) ≡ true → All ReadsBack rows → rows_from index before (trees_of (map entry_of rows)) ≡ Ok (before ++ rows)
rows_back index before [] differ read = ap Ok (sym (append-nil before))
rows_back index before (row ∷ rows) differ read =
    let here = All-head ReadsBack row rows read in
    row_new index before row (entry_row (entry_of row)) (λ all. rows_from (suc index) all (trees_of (map entry_of rows))) here (new_between before row rows differ)
    ∙ rows_back (suc index) (before ++ row ∷ []) rows (ap codes_differ (append_assoc before (row ∷ []) rows) ∙ differ) (All-tail ReadsBack row rows read)
    ∙ ap Ok (append_assoc before (row ∷ []) rows)

-- a table is read back from its reply if each row is read back from its entry
pub table_back : (rows : List CodeRow) → codes_differ rows ≡ true → All ReadsBack rows → table_of (table_reply rows) ≡ Ok rows
table_back rows differ read = rows_back 1 [] rows differ read
