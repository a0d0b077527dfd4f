-- How the calls of files change the bytes that are kept under names.
use Rattle.std.specs.Prelude.{◌≡◌, ℕ, List, [], ⊤, Some, None, Option, unwrap_or}
use Rattle.std.specs.FinMap as map
use Rattle.std.specs.Cmp.Lexicographic.{slice_cmp}
use Rattle.std.specs.Ordering.{nat_cmp}

-- A finite map from the names of files to their bytes.
abbrev pub Contents : Type 0
Contents = map.FinMap (slice_cmp nat_cmp) (List ℕ)

-- An opened disk has the bytes that are kept under its name, or no bytes.
abbrev pub OpensFile : Option Contents → List ℕ → Option (List ℕ) → Option (List ℕ) → Type 0
OpensFile None name opened_as bytes = ⊤
OpensFile (Some contents) name opened_as bytes =
    (opened_as ≡ Some name) × (bytes ≡ Some (unwrap_or (map.get contents name) []))

-- A closed disk leaves its bytes under the name by which it was opened, and the bytes of all other names unchanged.
abbrev pub ClosesFile : Option Contents → Option Contents → Option (List ℕ) → Option (List ℕ) → Type 0
ClosesFile (Some contents) now (Some name) (Some bytes) = now ≡ Some (map.insert contents name bytes)
ClosesFile contents now opened_as bytes = ⊤
