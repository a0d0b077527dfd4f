-- The parts of a line: its level, its code, the word of its kind and its value. Any line has parts; whether it is a
-- shown line is checked by showing what was read.
use Rattle.std.specs.Prelude.{◌≡◌, ◌<◌, ◌^◌, ℕ, suc, ℤ, List, [], ◌∷◌, ◌++◌, flat_map, Bool, true, false, ◌==◌, ◌&&◌, if◌then◌else◌, codes, decimal}
use Rattle.std.specs.Fmt.{signed_decimal}
use Rattle.std.specs.Int.{w8, w16, w32, w64}
use Rattle.std.specs.Int.RustNames.{FitsSigned}
use Rattle.std.specs.Str.{is_utf8, bytes_eq}
use Rattle.dmap_tags.specs.Tree.{Tree, leaf, list, none, tree_code}
use Rattle.dmap_tags.specs.Typed.{value_of}
use Rattle.dmap_tags.specs.declared.kinds.Kind.{Kind}
use Rattle.dmap_tags.specs.declared.kinds.Kind.TheVariants as kind
use Rattle.dmap_tags.specs.declared.tree.Value.{Value}
use Rattle.dmap_tags.specs.declared.tree.Value.TheVariants as value
use Rattle.dmap_show.specs.Shown.{indent, escaped, hex, quoted, dotted, shown_code, word_of, space_of, text_of}
use Rattle.dmap_show.specs.declared.spelled.Form.{Form}
use Rattle.dmap_show.specs.declared.spelled.Form.TheVariants.{Quoted, Hex}
use Rattle.dmap_show.specs.Readable.{AreBytes, IsCode, IsValue}

-- a line without its line feed
abbrev pub bare_line : ℕ → Tree → List ℕ
bare_line level t = indent level ++ shown_code (tree_code t) ++ 32 ∷ word_of t ++ space_of t ++ text_of t

-- a tag without its members, which has the same line
abbrev pub head_of : Tree → Tree
head_of (leaf c l) = leaf c l
head_of (list c ts) = list c none

abbrev pub IsHead : Tree → Type 0
IsHead (leaf c l) = IsCode c × IsValue l
IsHead (list c ts) = IsCode c

abbrev pub head_value : Tree → Value
head_value (leaf c l) = value_of l
head_value (list c ts) = value.List []

abbrev pub IsHeadValue : Value → Type 0
IsHeadValue (value.U8 n) = n < 2 ^ 8
IsHeadValue (value.I8 z) = FitsSigned w8 z
IsHeadValue (value.U16 n) = n < 2 ^ 16
IsHeadValue (value.I16 z) = FitsSigned w16 z
IsHeadValue (value.U32 n) = n < 2 ^ 32
IsHeadValue (value.I32 z) = FitsSigned w32 z
IsHeadValue (value.U64 n) = n < 2 ^ 64
IsHeadValue (value.I64 z) = FitsSigned w64 z
IsHeadValue (value.Text bytes) = is_utf8 bytes ≡ true
IsHeadValue (value.Date n) = n < 2 ^ 32
IsHeadValue (value.Version n) = n < 2 ^ 32
IsHeadValue (value.List ts) = ts ≡ []
IsHeadValue (value.Opaque bytes) = AreBytes bytes

-- the pairs of spaces at the beginning, and what follows them
abbrev pub pairs_in_front : List ℕ → ℕ
pairs_in_front [] = 0
pairs_in_front (a ∷ []) = 0
pairs_in_front (a ∷ b ∷ bytes) = if (a == 32) && (b == 32) then suc (pairs_in_front bytes) else 0

abbrev pub behind_pairs : List ℕ → List ℕ
behind_pairs [] = []
behind_pairs (a ∷ []) = a ∷ []
behind_pairs (a ∷ b ∷ bytes) = if (a == 32) && (b == 32) then behind_pairs bytes else a ∷ b ∷ bytes

-- the kind of a word
abbrev pub kind_named : List ℕ → Kind
kind_named word =
    if bytes_eq word (codes "u8") then kind.U8 else (if bytes_eq word (codes "i8") then kind.I8
    else (if bytes_eq word (codes "u16") then kind.U16 else (if bytes_eq word (codes "i16") then kind.I16
    else (if bytes_eq word (codes "u32") then kind.U32 else (if bytes_eq word (codes "i32") then kind.I32
    else (if bytes_eq word (codes "u64") then kind.U64 else (if bytes_eq word (codes "i64") then kind.I64
    else (if bytes_eq word (codes "text") then kind.Text else (if bytes_eq word (codes "date") then kind.Date
    else (if bytes_eq word (codes "version") then kind.Version else (if bytes_eq word (codes "list") then kind.List
    else kind.Opaque)))))))))))

-- the text shows the value of that kind
abbrev pub Spells : Kind → List ℕ → Value → Type 0
Spells kind.U8 text v = (n : ℕ) × ((n < 2 ^ 8) × ((text ≡ decimal n) × (v ≡ value.U8 n)))
Spells kind.I8 text v = (z : ℤ) × (FitsSigned w8 z × ((text ≡ signed_decimal z) × (v ≡ value.I8 z)))
Spells kind.U16 text v = (n : ℕ) × ((n < 2 ^ 16) × ((text ≡ decimal n) × (v ≡ value.U16 n)))
Spells kind.I16 text v = (z : ℤ) × (FitsSigned w16 z × ((text ≡ signed_decimal z) × (v ≡ value.I16 z)))
Spells kind.U32 text v = (n : ℕ) × ((n < 2 ^ 32) × ((text ≡ decimal n) × (v ≡ value.U32 n)))
Spells kind.I32 text v = (z : ℤ) × (FitsSigned w32 z × ((text ≡ signed_decimal z) × (v ≡ value.I32 z)))
Spells kind.U64 text v = (n : ℕ) × ((n < 2 ^ 64) × ((text ≡ decimal n) × (v ≡ value.U64 n)))
Spells kind.I64 text v = (z : ℤ) × (FitsSigned w64 z × ((text ≡ signed_decimal z) × (v ≡ value.I64 z)))
Spells kind.Text text v = (bytes : List ℕ) × ((is_utf8 bytes ≡ true) × ((text ≡ quoted bytes) × (v ≡ value.Text bytes)))
Spells kind.Date text v = (n : ℕ) × ((n < 2 ^ 32) × ((text ≡ decimal n) × (v ≡ value.Date n)))
Spells kind.Version text v = (n : ℕ) × ((n < 2 ^ 32) × ((text ≡ dotted n) × (v ≡ value.Version n)))
Spells kind.List text v = v ≡ value.List []
Spells kind.Opaque text v = (bytes : List ℕ) × (AreBytes bytes × ((text ≡ 35 ∷ flat_map hex bytes) × (v ≡ value.Opaque bytes)))

abbrev pub is_number : Kind → Bool
is_number kind.U8 = true
is_number kind.I8 = true
is_number kind.U16 = true
is_number kind.I16 = true
is_number kind.U32 = true
is_number kind.I32 = true
is_number kind.U64 = true
is_number kind.I64 = true
is_number kind.Date = true
is_number kind.Version = true
is_number kind.Text = false
is_number kind.List = false
is_number kind.Opaque = false

-- what one byte is shown as
abbrev pub piece : Form → ℕ → List ℕ
piece Quoted b = escaped b
piece Hex b = hex b
