-- The limits of records.
use Rattle.std.specs.Prelude.{ℕ}

-- the maximum number of records in a batch
abbrev pub most_records : ℕ
most_records = 65536

-- the maximum number of digits of a number in a cell
abbrev pub cell_digits : ℕ
cell_digits = 20
