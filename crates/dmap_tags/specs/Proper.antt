-- A value as a program has it: a number in its kind's range, a text in UTF-8.
use Rattle.std.specs.Prelude.{◌≡◌, FitsSigned, ◌<◌, ◌^◌, true}
use Rattle.std.specs.Int.{w8, w16, w32, w64}
use Rattle.std.specs.Str.{is_utf8}
use Rattle.dmap_tags.specs.Tree.{Leaf, U8, I8, U16, I16, U32, I32, U64, I64, Text, Date, Version, Opaque, Tree, leaf, list, Trees, none, more}

abbrev pub IsProper : Leaf → Type 0
IsProper (U8 n) = n < 2 ^ 8
IsProper (I8 z) = FitsSigned w8 z
IsProper (U16 n) = n < 2 ^ 16
IsProper (I16 z) = FitsSigned w16 z
IsProper (U32 n) = n < 2 ^ 32
IsProper (I32 z) = FitsSigned w32 z
IsProper (U64 n) = n < 2 ^ 64
IsProper (I64 z) = FitsSigned w64 z
IsProper (Text bytes) = is_utf8 bytes ≡ true
IsProper (Date n) = n < 2 ^ 32
IsProper (Version n) = n < 2 ^ 32
IsProper (Opaque bytes) = Unit {0}

-- a tag whose values are all proper
abbrev mutual
  pub IsProperTag : Tree → Type 0
  IsProperTag (leaf c l) = IsProper l
  IsProperTag (list c ts) = AreProperTags ts

  pub AreProperTags : Trees → Type 0
  AreProperTags none = Unit {0}
  AreProperTags (more t ts) = IsProperTag t × AreProperTags ts
