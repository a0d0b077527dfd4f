-- How tags are shown as text: one line per tag, a list's members below it and one level deeper.
use Rattle.std.specs.Prelude.{ℕ, zero, suc, ◌/◌, ◌%◌, List, [], ◌∷◌, ◌++◌, flat_map, ◌||◌, ◌==◌, nat_lt, if◌then◌else◌, codes, decimal}
use Rattle.std.specs.Fmt.{signed_decimal}
use Rattle.std.specs.Char.{digit_char, is_ascii_graphic}
use Rattle.std.specs.List.{list_all}
use Rattle.dmap_tags.specs.Codes.{Four, code_bytes}
use Rattle.dmap_tags.specs.Tree.{Leaf, U8, I8, U16, I16, U32, I32, U64, I64, Text, Date, Version, Opaque, Tree, leaf, list, Trees, none, more, tree_code}

-- two spaces per level
abbrev pub indent : ℕ → List ℕ
indent zero = []
indent (suc n) = 32 ∷ 32 ∷ indent n

-- two lower-case hex digits
abbrev pub hex : ℕ → List ℕ
hex byte = digit_char (byte / 16) ∷ digit_char (byte % 16) ∷ []

-- a code of four characters from ! to ~ as it is, any other as an x and its hex digits
abbrev pub shown_code : Four → List ℕ
shown_code c = if list_all is_ascii_graphic (code_bytes c) then code_bytes c else 120 ∷ flat_map hex (code_bytes c)

-- within quotes a quote, a backslash and control characters are escaped
abbrev pub escaped : ℕ → List ℕ
escaped byte =
    if byte == 34 then 92 ∷ 34 ∷ []
    else (if byte == 92 then 92 ∷ 92 ∷ []
    else (if nat_lt byte 32 || (byte == 127) then 92 ∷ 120 ∷ hex byte else byte ∷ []))

abbrev pub quoted : List ℕ → List ℕ
quoted bytes = 34 ∷ flat_map escaped bytes ++ 34 ∷ []

-- the upper 16 bits, the next 8 and the last 8, with points between them
abbrev pub dotted : ℕ → List ℕ
dotted n = decimal (n / 65536) ++ 46 ∷ decimal (n / 256 % 256) ++ 46 ∷ decimal (n % 256)

abbrev pub leaf_word : Leaf → List ℕ
leaf_word (U8 n) = codes "u8"
leaf_word (I8 z) = codes "i8"
leaf_word (U16 n) = codes "u16"
leaf_word (I16 z) = codes "i16"
leaf_word (U32 n) = codes "u32"
leaf_word (I32 z) = codes "i32"
leaf_word (U64 n) = codes "u64"
leaf_word (I64 z) = codes "i64"
leaf_word (Text bytes) = codes "text"
leaf_word (Date n) = codes "date"
leaf_word (Version n) = codes "version"
leaf_word (Opaque bytes) = codes "opaque"

abbrev pub leaf_text : Leaf → List ℕ
leaf_text (U8 n) = decimal n
leaf_text (I8 z) = signed_decimal z
leaf_text (U16 n) = decimal n
leaf_text (I16 z) = signed_decimal z
leaf_text (U32 n) = decimal n
leaf_text (I32 z) = signed_decimal z
leaf_text (U64 n) = decimal n
leaf_text (I64 z) = signed_decimal z
leaf_text (Text bytes) = quoted bytes
leaf_text (Date n) = decimal n
leaf_text (Version n) = dotted n
leaf_text (Opaque bytes) = 35 ∷ flat_map hex bytes

-- the word of the kind, and what follows it: a space and the value, but nothing for a list
abbrev pub word_of : Tree → List ℕ
word_of (leaf c l) = leaf_word l
word_of (list c ts) = codes "list"

abbrev pub space_of : Tree → List ℕ
space_of (leaf c l) = 32 ∷ []
space_of (list c ts) = []

abbrev pub text_of : Tree → List ℕ
text_of (leaf c l) = leaf_text l
text_of (list c ts) = []

-- the line of a tag itself
abbrev pub shown_line : ℕ → Tree → List ℕ
shown_line level t = indent level ++ shown_code (tree_code t) ++ 32 ∷ word_of t ++ space_of t ++ text_of t ++ 10 ∷ []

-- the lines of a tag and of all tags in it
abbrev mutual
  pub shown_tag : ℕ → Tree → List ℕ
  shown_tag level (leaf c l) = shown_line level (leaf c l)
  shown_tag level (list c ts) = shown_line level (list c ts) ++ shown_tags (suc level) ts

  pub shown_tags : ℕ → Trees → List ℕ
  shown_tags level none = []
  shown_tags level (more t ts) = shown_tag level t ++ shown_tags level ts
