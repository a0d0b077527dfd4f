-- The parts of a tag's object: the name of each kind, and the value that a JSON value is under a kind.
use Rattle.std.specs.Prelude.{◌≡◌, ◌<◌, ◌^◌, ℕ, ℤ, List, flat_map, true, Option, Some, None, codes, if◌then◌else◌}
use Rattle.std.specs.Int.{w8, w16, w32, w64}
use Rattle.std.specs.Int.RustNames.{FitsSigned}
use Rattle.std.specs.Str.{is_utf8, bytes_eq}
use Rattle.serde_json.specs.Data.{Data, number, string, unsigned}
use Rattle.serde_json.specs.Find.{of_integer}
use Rattle.dmap_tags.specs.declared.kinds.Kind.{Kind}
use Rattle.dmap_tags.specs.declared.kinds.Kind.TheVariants as kind
use Rattle.dmap_tags.specs.declared.tree.Value.{Value}
use Rattle.dmap_tags.specs.declared.tree.Value.TheVariants as value
use Rattle.dmap_show.specs.Readable.{AreBytes}
use Rattle.dmap_show.specs.Shown.{hex}

abbrev pub kind_word : Kind → List ℕ
kind_word kind.U8 = codes "u8"
kind_word kind.I8 = codes "i8"
kind_word kind.U16 = codes "u16"
kind_word kind.I16 = codes "i16"
kind_word kind.U32 = codes "u32"
kind_word kind.I32 = codes "i32"
kind_word kind.U64 = codes "u64"
kind_word kind.I64 = codes "i64"
kind_word kind.Text = codes "text"
kind_word kind.Date = codes "date"
kind_word kind.Version = codes "version"
kind_word kind.List = codes "list"
kind_word kind.Opaque = codes "opaque"

abbrev pub kind_named : List ℕ → Option Kind
kind_named word =
    if bytes_eq word (codes "u8") then Some kind.U8 else (if bytes_eq word (codes "i8") then Some kind.I8
    else (if bytes_eq word (codes "u16") then Some kind.U16 else (if bytes_eq word (codes "i16") then Some kind.I16
    else (if bytes_eq word (codes "u32") then Some kind.U32 else (if bytes_eq word (codes "i32") then Some kind.I32
    else (if bytes_eq word (codes "u64") then Some kind.U64 else (if bytes_eq word (codes "i64") then Some kind.I64
    else (if bytes_eq word (codes "text") then Some kind.Text else (if bytes_eq word (codes "date") then Some kind.Date
    else (if bytes_eq word (codes "version") then Some kind.Version else (if bytes_eq word (codes "list") then Some kind.List
    else (if bytes_eq word (codes "opaque") then Some kind.Opaque else None))))))))))))

-- the JSON value is that value of the kind, which is not a list's
abbrev pub IsValueOf : Kind → Data → Value → Type 0
IsValueOf kind.U8 d v = (n : ℕ) × ((n < 2 ^ 8) × ((d ≡ number (unsigned n)) × (v ≡ value.U8 n)))
IsValueOf kind.I8 d v = (z : ℤ) × (FitsSigned w8 z × ((d ≡ number (of_integer z)) × (v ≡ value.I8 z)))
IsValueOf kind.U16 d v = (n : ℕ) × ((n < 2 ^ 16) × ((d ≡ number (unsigned n)) × (v ≡ value.U16 n)))
IsValueOf kind.I16 d v = (z : ℤ) × (FitsSigned w16 z × ((d ≡ number (of_integer z)) × (v ≡ value.I16 z)))
IsValueOf kind.U32 d v = (n : ℕ) × ((n < 2 ^ 32) × ((d ≡ number (unsigned n)) × (v ≡ value.U32 n)))
IsValueOf kind.I32 d v = (z : ℤ) × (FitsSigned w32 z × ((d ≡ number (of_integer z)) × (v ≡ value.I32 z)))
IsValueOf kind.U64 d v = (n : ℕ) × ((n < 2 ^ 64) × ((d ≡ number (unsigned n)) × (v ≡ value.U64 n)))
IsValueOf kind.I64 d v = (z : ℤ) × (FitsSigned w64 z × ((d ≡ number (of_integer z)) × (v ≡ value.I64 z)))
IsValueOf kind.Text d v = (bytes : List ℕ) × ((is_utf8 bytes ≡ true) × ((d ≡ string bytes) × (v ≡ value.Text bytes)))
IsValueOf kind.Date d v = (n : ℕ) × ((n < 2 ^ 32) × ((d ≡ number (unsigned n)) × (v ≡ value.Date n)))
IsValueOf kind.Version d v = (n : ℕ) × ((n < 2 ^ 32) × ((d ≡ number (unsigned n)) × (v ≡ value.Version n)))
IsValueOf kind.List d v = ⊥
IsValueOf kind.Opaque d v = (bytes : List ℕ) × (AreBytes bytes × ((d ≡ string (flat_map hex bytes)) × (v ≡ value.Opaque bytes)))
