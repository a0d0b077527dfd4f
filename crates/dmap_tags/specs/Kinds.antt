-- The kinds of values and their numbers in /content-codes.
use Rattle.std.specs.Prelude.{◌≡◌, ◌<◌, ◌⊎◌, ℕ, Bool, true, false, Option, Some, None}
use Rattle.dmap_tags.specs.declared.kinds.Kind.{Kind}
use Rattle.dmap_tags.specs.declared.kinds.Kind.TheVariants.{U8, I8, U16, I16, U32, I32, U64, I64, Text, Date, Version, List, Opaque}

abbrev pub kind_number : Kind → Option ℕ
kind_number U8 = Some 1
kind_number I8 = Some 2
kind_number U16 = Some 3
kind_number I16 = Some 4
kind_number U32 = Some 5
kind_number I32 = Some 6
kind_number U64 = Some 7
kind_number I64 = Some 8
kind_number Text = Some 9
kind_number Date = Some 10
kind_number Version = Some 11
kind_number List = Some 12
kind_number Opaque = None

-- the kind with that number, or opaque if no kind has it
abbrev pub IsKindOf : ℕ → Kind → Type 0
IsKindOf n kind = (kind_number kind ≡ Some n) ⊎ ((kind ≡ Opaque) × ((n ≡ 0) ⊎ (12 < n)))

-- whether the values of a kind are tags
abbrev pub is_list : Kind → Bool
is_list List = true
is_list U8 = false
is_list I8 = false
is_list U16 = false
is_list I16 = false
is_list U32 = false
is_list I32 = false
is_list U64 = false
is_list I64 = false
is_list Text = false
is_list Date = false
is_list Version = false
is_list Opaque = false
