-- Numbers: one or more decimal digits up to a maximum number, with or without leading zeros, and nothing else.
use Rattle.std.specs.Prelude.{◌&&◌, if◌then◌else◌, ℕ, Bool, List, length, Option, Some, None}
use Rattle.std.specs.Char.{is_ascii_digit}
use Rattle.std.specs.Int.{is_in_range}
use Rattle.std.specs.List.{list_all}
use Rattle.std.specs.Str.Parse.{digits_value}
use Rattle.records_import.specs.Limits.{cell_digits}

-- one or more bytes up to the maximum number, each of them a digit
abbrev pub is_number : ℕ → List ℕ → Bool
is_number most digits = is_in_range 1 most (length digits) && list_all is_ascii_digit digits

-- the number that the bytes are in decimal, or None
abbrev pub number_of : ℕ → List ℕ → Option ℕ
number_of most digits = if is_number most digits then Some (digits_value 10 digits) else None

-- the number in a cell
abbrev pub cell_number : List ℕ → Option ℕ
cell_number cell = number_of cell_digits cell
