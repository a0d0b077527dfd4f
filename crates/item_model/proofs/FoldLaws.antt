-- Folding, and the lowering of ASCII letters.
use Rattle.std.proofs.Common.{◌≡◌, ◌<◌, ◌≤◌, ◌++◌, ℕ, suc, List, [], ◌∷◌, length, length-append, append-nil, get_or, All, refl, sym, ap, ap₂, subst, ◌∙◌, inl, inr, IsUtf8, IsAscii, chars, encode_utf8, encode_utf8_all, arith}
use Rattle.std.proofs.lemmas.List.{map-append}
use Rattle.std.proofs.lemmas.Bool.{cases_lt}
use Rattle.std.proofs.lemmas.Bool.Decides.{nat_tests}
use Rattle.std.proofs.lemmas.Str.{encodes-IsAscii, encode_ascii, inside_one, chars-IsAscii, encodes-chars, length-le-encodes}
use Rattle.std.proofs.lemmas.Str.Ascii.{IsAscii-map}
use Rattle.std.specs.Char.{to_ascii_lowercase}
use Rattle.ucd_case.specs.CaseFolding.{full_fold, full_folding, or_itself}
use Rattle.ucd_case.proofs.CaseFoldingLemmas.{full_fold-ascii}
use Rattle.caseless.specs.Caseless.{default_case_fold}
use Rattle.caseless.proofs.CaselessLemmas.{default_case_fold-cons, default_case_fold-ascii, default_case_fold_idem, All-chars}
use Rattle.item_model.specs.Folding.{folded, folded_chars, lowered}

lower_ascii : (c : ℕ) → c < 128 → to_ascii_lowercase c < 128
lower_ascii c h = grind (arith, nat_tests)

-- an ASCII text folds as its letters are lowered
pub folded_ascii : (text : List ℕ) → IsAscii text → folded text ≡ lowered text
unfolding folded
folded_ascii text ascii =
    let same : chars text ≡ text = chars-IsAscii text ascii in
    let all : All (λ c. c < 128) text = subst (All (λ c. c < 128)) same (All-chars text ascii) in
    ap (λ cs. encode_utf8_all (default_case_fold cs)) same ∙ ap encode_utf8_all (default_case_fold-ascii text all)
    ∙ encodes-IsAscii (lowered text) (IsAscii-map to_ascii_lowercase text lower_ascii ascii)

filled : (c : ℕ) (xs : List ℕ) → 1 ≤ length (or_itself c xs)
filled c [] = omega arith
filled c (x ∷ xs) = omega arith

-- folding drops no character
never_shorter : (cs : List ℕ) → length cs ≤ length (default_case_fold cs)
never_shorter [] = omega arith
never_shorter (c ∷ cs) =
    omega (arith, ap length (default_case_fold-cons c cs), length-append (full_fold c) (default_case_fold cs), filled c (full_folding c), never_shorter cs)

first_same : (xs ys : List ℕ) (c : ℕ) (cs : List ℕ) → xs ++ ys ≡ c ∷ cs → 1 ≤ length xs → length cs ≤ length ys → (xs ≡ c ∷ []) × (ys ≡ cs)
first_same [] ys c cs e h k = absurd (omega arith)
first_same (x ∷ []) ys c cs e h k = (cc, cc)
first_same (x ∷ z ∷ xs) ys c cs e h k = absurd (omega (arith, ap length e, length-append xs ys))

-- a character that folds to itself is not a capital letter of ASCII
stays_low : (c : ℕ) → full_fold c ≡ c ∷ [] → to_ascii_lowercase c ≡ c
stays_low c e =
    elim (cases_lt c 128) [
      | inl ascii ↦ let one : to_ascii_lowercase c ∷ [] ≡ c ∷ [] = sym (full_fold-ascii c ascii) ∙ e in cc
      | inr wide ↦ grind (arith, nat_tests)
    ]

high_stays : (b : ℕ) → 128 ≤ b → to_ascii_lowercase b ≡ b
high_stays b h = grind (arith, nat_tests)

highs_stay : (bs : List ℕ) → ((k : ℕ) → k < length bs → 128 ≤ get_or bs k 0) → lowered bs ≡ bs
highs_stay [] h = refl
highs_stay (b ∷ bs) h = ap₂ ◌∷◌ (high_stays b (h 0 (omega arith))) (highs_stay bs (λ k l. h (suc k) (omega arith)))

-- the bytes of a character above ASCII are above it
inside_high : (c : ℕ) → 128 ≤ c → (k : ℕ) → k < length (encode_utf8 c) → 128 ≤ get_or (encode_utf8 c) k 0
inside_high c h k l =
    elim (cases_lt (get_or (encode_utf8 c) k 0) 128) [
      | inl low ↦ absurd (omega (arith, inside_one c [] (encode_utf8 c) k (sym (append-nil (encode_utf8 c))) l low))
      | inr high ↦ high
    ]

-- the bytes of a character that is not a capital letter of ASCII are not capital letters
char_stays : (c : ℕ) → to_ascii_lowercase c ≡ c → lowered (encode_utf8 c) ≡ encode_utf8 c
char_stays c h =
    elim (cases_lt c 128) [
      | inl ascii ↦ rw (encode_ascii c ascii) (ap (λ x. x ∷ []) h)
      | inr wide ↦ highs_stay (encode_utf8 c) (inside_high c wide)
    ]

-- nor are those of characters that fold to themselves
all_stay : (cs : List ℕ) → default_case_fold cs ≡ cs → lowered (encode_utf8_all cs) ≡ encode_utf8_all cs
all_stay [] e = refl
all_stay (c ∷ cs) e =
    let parts = first_same (full_fold c) (default_case_fold cs) c cs (sym (default_case_fold-cons c cs) ∙ e) (filled c (full_folding c)) (never_shorter cs) in
    map-append to_ascii_lowercase (encode_utf8 c) (encode_utf8_all cs)
    ∙ ap₂ ◌++◌ (char_stays c (stays_low c parts.0)) (all_stay cs parts.1)

-- a folded text has no capital letter of ASCII
pub lowered_folded : (text : List ℕ) → lowered (folded text) ≡ folded text
unfolding folded
lowered_folded text = all_stay (folded_chars text) (default_case_fold_idem (chars text))

filled_chars : (bs : List ℕ) (cs : List ℕ) → encode_utf8_all cs ≡ bs → 1 ≤ length bs → 1 ≤ length cs
filled_chars bs [] e h = absurd (omega (arith, ap length e))
filled_chars bs (c ∷ cs) e h = omega arith

-- a text that is not empty folds to one that is not
pub folded_filled : (text : List ℕ) → IsUtf8 text → 1 ≤ length text → 1 ≤ length (folded text)
unfolding folded
folded_filled text utf8 h =
    omega (arith, filled_chars text (chars text) (encodes-chars text utf8) h, never_shorter (chars text), length-le-encodes (folded_chars text))
