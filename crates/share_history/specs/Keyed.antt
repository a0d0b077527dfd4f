-- Values by keys, as listings and mirrors hold them: pairs by ascending key, each key once.
use Rattle.std.specs.Prelude.{ℕ, List, [], Option, fold, filter_map, option_map}
use Rattle.std.specs.Ordering.{nat_cmp}
use Rattle.std.specs.List.Sorted.{IsStrictlySortedBy}
use Rattle.std.specs.Map.{keys_of, lookup, remove_entry}
use Rattle.std.specs.BTreeMap.{is_at, insert_entry}
use Rattle.std.specs.BTreeSet.{insert_key}

-- the value at a key
abbrev pub at : {A : Type 0} → ℕ → List (ℕ × A) → Option A
at key pairs = lookup (is_at (nat_cmp key)) pairs

-- the pairs with `pair` added; it replaces one with its key
abbrev pub put_in : {A : Type 0} → List (ℕ × A) → ℕ × A → List (ℕ × A)
put_in pairs pair = insert_entry nat_cmp pairs pair.0 pair.1

-- the pairs without the one at `key`
abbrev pub taken_out : {A : Type 0} → List (ℕ × A) → ℕ → List (ℕ × A)
taken_out pairs key = remove_entry (is_at (nat_cmp key)) pairs

-- each key is above the one before it
abbrev pub IsAscending : {A : Type 0} → List (ℕ × A) → Type 0
IsAscending pairs = IsStrictlySortedBy nat_cmp (keys_of pairs)

abbrev pub AreAscending : List ℕ → Type 0
AreAscending keys = IsStrictlySortedBy nat_cmp keys

-- the keys in ascending order, each once
abbrev pub ascending : List ℕ → List ℕ
ascending keys = fold (insert_key nat_cmp) [] keys

-- the keys that have a value, each paired with it
abbrev pub pairs_at : {A : Type 0} → (ℕ → Option A) → List ℕ → List (ℕ × A)
pairs_at value keys = filter_map (λ key. option_map (λ x. (key, x)) (value key)) keys
