-- The newest version of each key, followed by its older ones, which are in a map apart.
use Rattle.std.specs.Prelude.{ℕ, List, [], ◌∷◌, Option, None, Some, map}
use Rattle.std.specs.Option.{option_map_or}
use Rattle.std.specs.declared.collections.VecDeque.{VecDeque}
use Rattle.key_versions.specs.declared.version.Version.{Version}
use Rattle.key_versions.specs.Held.{Held, at}

abbrev pub older_at : {T A : Type 0} → ℕ → List (ℕ × VecDeque (Version T) A) → List (Version T)
older_at key older = option_map_or (λ versions. versions.items) (at key older) []

abbrev pub joined : {T A : Type 0} → List (ℕ × Version T) → List (ℕ × VecDeque (Version T) A) → Held T
joined newest older = map (λ e. (e.0, e.1 ∷ older_at e.0 older)) newest

-- the versions of a key
abbrev pub versions_of : {T : Type 0} → Option (Version T) → List (Version T) → List (Version T)
versions_of None older = []
versions_of (Some version) older = version ∷ older

abbrev pub apart_at : {T A : Type 0} → List (ℕ × Version T) → List (ℕ × VecDeque (Version T) A) → ℕ → List (Version T)
apart_at newest older key = versions_of (at key newest) (older_at key older)
