-- Sets of ids. No text is kept under which no id stands.
use Rattle.std.specs.Prelude.{ℕ, List, [], ◌∷◌, Bool, true, false, Option, Some, None}
use Rattle.std.specs.List.{list_any}
use Rattle.std.specs.Ordering.{nat_cmp}
use Rattle.std.specs.BTreeMap.{is_at}
use Rattle.std.specs.BTreeSet.{BTreeSet}

abbrev pub has : ℕ → List ℕ → Bool
has id ids = list_any (is_at (nat_cmp id)) ids

abbrev pub is_nil : List ℕ → Bool
is_nil [] = true
is_nil (id ∷ ids) = false

abbrev pub is_unused : Option (BTreeSet ℕ) → Bool
is_unused None = false
is_unused (Some ids) = is_nil ids.keys
