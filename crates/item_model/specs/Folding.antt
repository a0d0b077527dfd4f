-- How texts are compared: by the full default case folding of their characters (The Unicode Standard, section
-- 3.13, toCasefold), the same for every language.
use Rattle.std.specs.Prelude.{◌≡◌, ℕ, List, map, chars, encode_utf8_all}
use Rattle.std.specs.Char.{to_ascii_lowercase}
use Rattle.caseless.specs.Caseless.{default_case_fold}

-- the characters of the folded text
abbrev pub folded_chars : List ℕ → List ℕ
folded_chars text = default_case_fold (chars text)

-- the bytes of the folded text
unfoldable pub folded : List ℕ → List ℕ
folded text = encode_utf8_all (folded_chars text)

-- the bytes A to Z as a to z, all others unchanged
abbrev pub lowered : List ℕ → List ℕ
lowered text = map to_ascii_lowercase text

-- a search that lowers bytes as it goes finds the folded text in the searched one
abbrev pub IsSearchedFor : List ℕ → List ℕ → Type 0
IsSearchedFor text searched = lowered searched ≡ folded text
