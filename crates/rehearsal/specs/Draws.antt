-- Pseudo-random numbers: each state depends only on the one before, and its high part is the number.
use Rattle.std.specs.Prelude.{ℕ, ◌+◌, ◌*◌, ◌/◌, ◌%◌}
use Rattle.std.specs.Fn.{iterate}

-- the next state
abbrev pub next : ℕ → ℕ
next x = (x * 1103515245 + 12345) % 2147483648

-- the number of a state
abbrev pub drawn : ℕ → ℕ
drawn x = x / 65536

-- the state after `draws` steps from a number
unfoldable pub state : (number draws : ℕ) → ℕ
state number draws = iterate next draws number

-- the `n`-th number, counted from 1
abbrev pub draw : (number n : ℕ) → ℕ
draw number n = drawn (state number n)
