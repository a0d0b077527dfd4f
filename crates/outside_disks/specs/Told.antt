-- How calls change a known list. No clause restricts an unknown one.
use Rattle.std.specs.Prelude.{◌≡◌, List, ◌++◌, ⊤, Some, None, Option}

-- `more` was appended to a known list, or it became unknown. An unknown list stays unknown.
abbrev pub Grows : {A : Type 0} → Option (List A) → Option (List A) → List A → Type 0
Grows None None more = ⊤
Grows None (Some now) more = ⊥
Grows (Some before) None more = ⊤
Grows (Some before) (Some now) more = now ≡ before ++ more
