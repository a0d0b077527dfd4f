-- The limits of a query's text.
use Rattle.std.specs.Prelude.{ℕ}

-- the maximum length in bytes
abbrev pub query_bytes : ℕ
query_bytes = 4096

-- the maximum number of parentheses that are open at once
abbrev pub open_parentheses : ℕ
open_parentheses = 64
