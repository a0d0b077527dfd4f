-- The kind of a tag's value and the code of a name, by the first row of the table that has the code or the name.
use Rattle.std.specs.Prelude.{◌≡◌, ℕ, List, [], ◌∷◌, Bool, true, false, not, ◌&&◌, ◌||◌, if◌then◌else◌, Option, Some, None}
use Rattle.std.specs.BTreeMap.{is_at}
use Rattle.std.specs.Map.{lookup}
use Rattle.std.specs.Cmp.Lexicographic.{slice_cmp}
use Rattle.std.specs.declared.cmp.Ordering.{Ordering}
use Rattle.std.specs.Ordering.{nat_cmp}
use Rattle.std.specs.Str.{bytes_eq}
use Rattle.dmap_tags.specs.Codes.{Four, code, code_of, code_bytes, is_code}
use Rattle.dmap_tags.specs.declared.kinds.Kind.{Kind}
use Rattle.dmap_tags.specs.declared.kinds.Kind.TheVariants.{Text, Opaque}
use Rattle.code_table.specs.declared.row.CodeRow.{CodeRow}
use Rattle.code_table.specs.declared.standard.StandardRow.{StandardRow}

-- the kind in the row of the code, or opaque if there is no row
abbrev pub row_kind : List CodeRow → Four → Kind
row_kind [] c = Opaque
row_kind (row ∷ rows) c = if is_code row.code c then row.kind else row_kind rows c

-- the lists of a browse reply: artists, albums, genres, composers
abbrev pub is_browse_list : Four → Bool
is_browse_list c = is_code c (code "abar") || (is_code c (code "abal") || (is_code c (code "abgn") || is_code c (code "abcp")))

-- an mlit of such a list has a text as its value
abbrev pub is_browse_item : Option Four → Four → Bool
is_browse_item None c = false
is_browse_item (Some parent) c = is_code c (code "mlit") && is_browse_list parent

-- the kind of a tag's value, by its code and that of the list around it
abbrev pub kind_in : List CodeRow → Option Four → Four → Kind
kind_in rows parent c = if is_browse_item parent c then Text else row_kind rows c

abbrev pub first_named : List ℕ → List CodeRow → Option Four
first_named name [] = None
first_named name (row ∷ rows) = if bytes_eq row.name name then Some row.code else first_named name rows

abbrev pub is_coded : Four → List CodeRow → Bool
is_coded c [] = false
is_coded c (row ∷ rows) = is_code row.code c || is_coded c rows

-- no code has two rows
abbrev pub codes_differ : List CodeRow → Bool
codes_differ [] = true
codes_differ (row ∷ rows) = not (is_coded row.code rows) && codes_differ rows

-- the order of codes, by their bytes
abbrev pub code_cmp : Four → Four → Ordering
code_cmp a b = slice_cmp nat_cmp (code_bytes a) (code_bytes b)

-- the kind in the row of the code, if there is one
abbrev pub kind_at : List CodeRow → Four → Option Kind
kind_at [] c = None
kind_at (row ∷ rows) c = if is_code row.code c then Some row.kind else kind_at rows c

-- no code has two rows, and the map has the kinds in them
pub record AreIndexed (rows : List CodeRow) (kinds : List (Four × Kind)) : Type 0 where
  pub differ : codes_differ rows ≡ true
  pub found : (c : Four) → lookup (is_at (code_cmp c)) kinds ≡ kind_at rows c

-- a row of constant data as a row of the table
abbrev pub row_of : StandardRow → CodeRow
row_of row = record { code = code_of row.0; name = row.2.now; kind = row.1 }
