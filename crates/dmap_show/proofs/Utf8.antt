-- What is shown is UTF-8.
use Rattle.std.proofs.Common.{◌≡◌, ℕ, zero, suc, ◌<◌, ◌≤◌, Bool, true, ◌&&◌, nat_lt, List, [], ◌∷◌, ◌++◌, length, get_or, flat_map, IsUtf8, IsAscii, inl, inr, refl, sym, ap₂, subst, arith, append-nil, ltb-true}
use Rattle.std.proofs.lemmas.Bool.{and_parts, cases_lt, cases_eq}
use Rattle.std.proofs.lemmas.Bool.Decides.{nat_tests}
use Rattle.std.proofs.lemmas.List.Concat.{flat_map-append}
use Rattle.std.proofs.lemmas.Str.{IsUtf8-append, IsUtf8-nil, IsUtf8-encode, IsUtf8-from_ascii, encode_ascii, inside_one, is_utf8-from_IsUtf8, IsUtf8-from_is_utf8}
use Rattle.std.proofs.lemmas.Str.Ascii.{IsAscii-nil, IsAscii-cons}
use Rattle.std.specs.Char.{is_ascii_graphic}
use Rattle.std.specs.List.{list_all}
use Rattle.std.specs.Str.{is_utf8}
use lib.Utf8.{scalar, scalars, encode, encodes}
use Rattle.dmap_show.specs.Shown.{escaped}

-- a text followed by a text
pub utf8_appended : (old added new : List ℕ) → new ≡ old ++ added → IsUtf8 added → is_utf8 old ≡ true → is_utf8 new ≡ true
utf8_appended old added new e u h =
    is_utf8-from_IsUtf8 new (subst IsUtf8 (sym e) (IsUtf8-append old added (IsUtf8-from_is_utf8 old h) u))

pub nothing_is_utf8 : (bytes : List ℕ) → bytes ≡ [] → is_utf8 bytes ≡ true
nothing_is_utf8 bytes e = is_utf8-from_IsUtf8 bytes (subst IsUtf8 (sym e) IsUtf8-nil)

-- characters from ! to ~ are ASCII
pub graphic_ascii : (bytes : List ℕ) → list_all is_ascii_graphic bytes ≡ true → IsAscii bytes
graphic_ascii [] h = IsAscii-nil
graphic_ascii (b ∷ bytes) h =
    let p = and_parts (is_ascii_graphic b) (list_all is_ascii_graphic bytes) h in
    let small : b < 128 = let q = p.0 in grind (arith, nat_tests) in
    IsAscii-cons b bytes small (graphic_ascii bytes p.1)

abbrev are_ascii : List ℕ → Bool
are_ascii [] = true
are_ascii (b ∷ bytes) = nat_lt b 128 && are_ascii bytes

from_are_ascii : (bytes : List ℕ) → are_ascii bytes ≡ true → IsAscii bytes
from_are_ascii [] e = IsAscii-nil
from_are_ascii (b ∷ bytes) e = let p = and_parts _ _ e in IsAscii-cons b bytes (ltb-true _ _ p.0) (from_are_ascii bytes p.1)

-- what ASCII characters are shown as is ASCII
abbrev escapes_below : ℕ → Bool
escapes_below zero = true
escapes_below (suc n) = are_ascii (escaped n) && escapes_below n

escape_below : (n : ℕ) → escapes_below n ≡ true → (b : ℕ) → b < n → are_ascii (escaped b) ≡ true
escape_below zero e b h = absurd (omega arith)
escape_below (suc n) e b h =
    let p = and_parts _ _ e in
    elim (cases_eq b n) [ inl same ↦ rw same p.0 | inr other ↦ escape_below n p.1 b (omega arith) ]

all_ascii : escapes_below 128 ≡ true
all_ascii = refl

-- other bytes stay as they are
escaped_high : (b : ℕ) → 128 ≤ b → escaped b ≡ b ∷ []
escaped_high b h = grind (arith, nat_tests)

all_high : (bytes : List ℕ) → ((k : ℕ) → k < length bytes → 128 ≤ get_or bytes k 0) → flat_map escaped bytes ≡ bytes
all_high [] h = refl
all_high (b ∷ bytes) h =
    ap₂ (λ (x y : List ℕ). x ++ y) (escaped_high b (h 0 (omega arith))) (all_high bytes (λ k below. h (suc k) (omega arith)))

one_char : (c : ℕ) → scalar c ≡ true → IsUtf8 (flat_map escaped (encode c))
one_char c ok = elim (cases_lt c 128) [
  | inl small ↦ rw (encode_ascii c small, append-nil) (IsUtf8-from_ascii _ (from_are_ascii _ (escape_below 128 all_ascii c small)))
  | inr big ↦
      let high : (k : ℕ) → k < length (encode c) → 128 ≤ get_or (encode c) k 0 = λ k below. elim (cases_lt (get_or (encode c) k 0) 128) [
        | inl low ↦ absurd (omega (arith, inside_one c [] (encode c) k (sym (append-nil _)) below low))
        | inr h ↦ h
      ] in
      subst IsUtf8 (sym (all_high (encode c) high)) (IsUtf8-encode c ok)
]

all_chars : (cs : List ℕ) → scalars cs ≡ true → IsUtf8 (flat_map escaped (encodes cs))
all_chars [] e = IsUtf8-nil
all_chars (c ∷ cs) e =
    let p = and_parts _ _ e in
    subst IsUtf8 (sym (flat_map-append escaped (encode c) (encodes cs))) (IsUtf8-append _ _ (one_char c p.0) (all_chars cs p.1))

-- a text with its escapes is a text
pub escaped_utf8 : (bytes : List ℕ) → IsUtf8 bytes → IsUtf8 (flat_map escaped bytes)
escaped_utf8 bytes u = subst (λ l. IsUtf8 (flat_map escaped l)) u.1.1 (all_chars u.0 u.1.0)
