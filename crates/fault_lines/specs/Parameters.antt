-- The line of a parameter of a request whose value is malformed.
use Rattle.std.specs.Prelude.{ℕ, List, [], ◌∷◌, ◌++◌, codes}

abbrev pub parameter_line : List ℕ → List ℕ
parameter_line name = codes "parameter: " ++ name ++ 10 ∷ []
