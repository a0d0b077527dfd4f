-- The versions of one value, newest first, each with its revision. A look-up at a revision finds the newest version
-- that is not later.
use Rattle.std.specs.Prelude.{ℕ, List, [], ◌∷◌, Option, None, option_and_then, nat_le}
use Rattle.std.specs.List.{find}
use Rattle.key_versions.specs.declared.version.Version.{Version}

abbrev pub found : {T : Type 0} → List (Version T) → ℕ → Option (Version T)
found versions base = find (λ v. nat_le v.revision base) versions

-- the value at a revision
abbrev pub value_in : {T : Type 0} → List (Version T) → ℕ → Option T
value_in versions base = option_and_then (λ v. v.value) (found versions base)

-- the value of the newest version
abbrev pub newest_value : {T : Type 0} → List (Version T) → Option T
newest_value [] = None
newest_value (v ∷ vs) = v.value
