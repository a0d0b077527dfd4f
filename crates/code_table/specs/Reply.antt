-- The reply to /content-codes for a table, and the table of a reply.
use Rattle.std.specs.Prelude.{◌≡◌, ℕ, suc, List, [], ◌∷◌, ◌++◌, map, Bool, ◌==◌, if◌then◌else◌, Option, Some, None, unwrap_or, Result, Ok, Err}
use Rattle.std.specs.Int.{w32, from_be_bytes, to_be_bytes}
use Rattle.dmap_tags.specs.Codes.{Four, code, code_of, code_bytes, is_code}
use Rattle.dmap_tags.specs.Kinds.{kind_number}
use Rattle.dmap_tags.specs.Tree as tree
use Rattle.dmap_tags.specs.Tree.{Leaf, Tree, leaf, list, Trees, none, more, trees_of, tree_code}
use Rattle.dmap_tags.specs.declared.kinds.Kind.{Kind}
use Rattle.dmap_tags.specs.declared.kinds.Kind.TheVariants as kind
use Rattle.code_table.specs.declared.reply.CodeError.{CodeError}
use Rattle.code_table.specs.declared.reply.CodeError.TheVariants.{NotReply, Entry, Repeated}
use Rattle.code_table.specs.declared.row.CodeRow.{CodeRow}
use Rattle.code_table.specs.Rows.{is_coded}

-- the four bytes of a code as one number, and back
abbrev pub number_of : Four → ℕ
number_of c = from_be_bytes w32 (code_bytes c)

abbrev pub numbered : ℕ → Four
numbered n = code_of (to_be_bytes w32 n)

-- the number of a kind, 0 for opaque, and the kind of a number
abbrev pub type_of : Kind → ℕ
type_of k = unwrap_or (kind_number k) 0

abbrev pub typed_by : ℕ → Kind
typed_by n =
    if n == 1 then kind.U8 else (if n == 2 then kind.I8 else (if n == 3 then kind.U16 else (if n == 4 then kind.I16
    else (if n == 5 then kind.U32 else (if n == 6 then kind.I32 else (if n == 7 then kind.U64 else (if n == 8 then kind.I64
    else (if n == 9 then kind.Text else (if n == 10 then kind.Date else (if n == 11 then kind.Version else (if n == 12 then kind.List
    else kind.Opaque)))))))))))

-- a row as an entry of the reply
abbrev pub entry_of : CodeRow → Tree
entry_of row =
    list (code "mdcl")
    (trees_of
    (leaf (code "mcnm") (tree.U32 (number_of row.code))
    ∷ leaf (code "mcna") (tree.Text row.name)
    ∷ leaf (code "mcty") (tree.U16 (type_of row.kind)) ∷ []))

abbrev pub table_reply : List CodeRow → Tree
table_reply rows = list (code "mccr") (trees_of (leaf (code "mstt") (tree.U32 200) ∷ map entry_of rows))

-- the first tag with that code
abbrev pub first_in : Four → Trees → Option Tree
first_in c none = None
first_in c (more t ts) = if is_code (tree_code t) c then Some t else first_in c ts

-- the number of a code, a type or a name, if the tag has such a value
abbrev pub number_in : Option Tree → Option ℕ
number_in (Some (leaf c (tree.U32 n))) = Some n
number_in _ = None

abbrev pub type_in : Option Tree → Option ℕ
type_in (Some (leaf c (tree.U16 n))) = Some n
type_in _ = None

abbrev pub name_in : Option Tree → Option (List ℕ)
name_in (Some (leaf c (tree.Text bytes))) = Some bytes
name_in _ = None

-- the row of a code, a type and a name, if there are all three
abbrev pub row_by : Option ℕ → Option ℕ → Option (List ℕ) → Option CodeRow
row_by None t name = None
row_by (Some n) None name = None
row_by (Some n) (Some t) None = None
row_by (Some n) (Some t) (Some name) = Some (record { code = numbered n; name = name; kind = typed_by t })

-- the row of an entry: its first mcnm, mcty and mcna count
abbrev pub entry_row : Tree → Option CodeRow
entry_row (leaf c l) = None
entry_row (list c ts) = row_by (number_in (first_in (code "mcnm") ts)) (type_in (first_in (code "mcty") ts)) (name_in (first_in (code "mcna") ts))

-- a further row, unless an earlier row has its code
abbrev pub row_more : ℕ → List CodeRow → Option CodeRow → (List CodeRow → Result (List CodeRow) CodeError) → Result (List CodeRow) CodeError
row_more index rows None next = Err (Entry index)
row_more index rows (Some row) next = if is_coded row.code rows then Err (Repeated index) else next (rows ++ row ∷ [])

-- `rows` and then the rows of the members from `index` on; members that are not an mdcl are skipped
abbrev pub rows_from : ℕ → List CodeRow → Trees → Result (List CodeRow) CodeError
rows_from index rows none = Ok rows
rows_from index rows (more t ts) =
    if is_code (tree_code t) (code "mdcl") then row_more index rows (entry_row t) (λ all. rows_from (suc index) all ts)
    else rows_from (suc index) rows ts

abbrev pub table_of : Tree → Result (List CodeRow) CodeError
table_of (leaf c l) = Err NotReply
table_of (list c ts) = if is_code c (code "mccr") then rows_from 0 [] ts else Err NotReply
