-- How many parentheses are open. Those in the values of conditions do not count.
use Rattle.std.specs.Prelude.{ℕ, List, [], ◌∷◌, ◌+◌, ◌-◌, ◌==◌, max, if◌then◌else◌}

-- outside of conditions, in one, or after a backslash in one
pub data Where : Type 0 where
  outside : Where
  inside : Where
  behind : Where

abbrev pub where_next : Where → ℕ → Where
where_next outside c = if c == 39 then inside else outside
where_next inside c = if c == 39 then outside else (if c == 92 then behind else inside)
where_next behind c = inside

abbrev pub open_next : Where → ℕ → ℕ → ℕ
open_next outside n c = if c == 40 then n + 1 else (if c == 41 then n - 1 else n)
open_next inside n c = n
open_next behind n c = n

-- the number of open parentheses after the bytes, if n are open before them
abbrev pub open_behind : Where → ℕ → List ℕ → ℕ
open_behind w n [] = n
open_behind w n (c ∷ cs) = open_behind (where_next w c) (open_next w n c) cs

abbrev pub open_at_end : List ℕ → ℕ
open_at_end text = open_behind outside 0 text

-- the maximum number that are open at once
abbrev pub most_open : Where → ℕ → List ℕ → ℕ
most_open w n [] = n
most_open w n (c ∷ cs) = max n (most_open (where_next w c) (open_next w n c) cs)

abbrev pub deepest : List ℕ → ℕ
deepest text = most_open outside 0 text
