-- A list of bytes begins with another.
use Rattle.std.specs.Prelude.{◌≡◌, ℕ, List, take, length}

abbrev pub Begins : List ℕ → List ℕ → Type 0
Begins front whole = take (length front) whole ≡ front
