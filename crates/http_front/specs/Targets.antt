-- The target of a request: its path and, after the first question mark, its parameters (RFC 9112, section 3.2).
use Rattle.std.specs.Prelude.{ℕ, List, [], ◌∷◌, drop, codes, ◌||◌, ◌==◌, nat_eq, if◌then◌else◌}
use Rattle.std.specs.List.{after_first, before_first, starts_with}

-- the bytes from the first slash on
abbrev pub from_slash : List ℕ → List ℕ
from_slash [] = []
from_slash (b ∷ bs) = if b == 47 then b ∷ bs else from_slash bs

-- a target without a scheme and a host; the scheme is compared with case
abbrev pub local_part : List ℕ → List ℕ
local_part target =
    if starts_with nat_eq target (codes "http://") || starts_with nat_eq target (codes "daap://") then from_slash (drop 7 target)
    else target

abbrev pub path_of : List ℕ → List ℕ
path_of local = before_first (λ b. b == 63) local

abbrev pub query_of : List ℕ → List ℕ
query_of local = after_first (λ b. b == 63) local
