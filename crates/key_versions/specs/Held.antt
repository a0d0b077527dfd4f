-- Versions of values under keys.
use Rattle.std.specs.Prelude.{◌≡◌, ℕ, ◌+◌, List, [], ◌==◌, Bool, Option, None, Some, is_some, unwrap_or}
use Rattle.std.specs.Ordering.{nat_cmp}
use Rattle.std.specs.List.{list_any}
use Rattle.std.specs.List.Sorted.{IsStrictlySortedBy}
use Rattle.std.specs.Map.{lookup}
use Rattle.std.specs.BTreeMap.{is_at}
use Rattle.key_versions.specs.declared.version.Version.{Version}
use Rattle.key_versions.specs.Found.{value_in, newest_value}

-- all stored versions, ascending by key
abbrev pub Held : Type 0 → Type 0
Held T = List (ℕ × List (Version T))

abbrev pub at : {A : Type 0} → ℕ → List (ℕ × A) → Option A
at key pairs = lookup (is_at (nat_cmp key)) pairs

abbrev pub versions_at : {T : Type 0} → ℕ → Held T → List (Version T)
versions_at key held = unwrap_or (at key held) []

-- the value of a key at a revision
abbrev pub value_at : {T : Type 0} → Held T → ℕ → ℕ → Option T
value_at held key base = value_in (versions_at key held) base

abbrev pub is_among : ℕ → List ℕ → Bool
is_among key keys = list_any (λ other. other == key) keys

-- the keys whose newest version has a value, ascending
pub record AreKeys {T : Type 0} (held : Held T) (keys : List ℕ) : Type 0 where
  pub ascending : IsStrictlySortedBy nat_cmp keys
  pub each : (q : ℕ) → list_any (is_at (nat_cmp q)) keys ≡ is_some (newest_value (versions_at q held))

-- the least key after one, or of all
abbrev pub behind : Option ℕ → ℕ
behind None = 0
behind (Some key) = key + 1
