-- Bytes that are decimal digits, and what they write.
use Rattle.std.proofs.Common.{◌≡◌, ◌≤◌, ◌<◌, ◌-◌, ◌^◌, ◌∷◌, [], ℕ, List, true, arith, length}
use Rattle.std.specs.Prelude.{nat_le}
use Rattle.std.specs.Char.{digit_value, is_ascii_digit}
use Rattle.std.specs.List.{list_all}
use Rattle.std.specs.Str.Parse.{AllDigits, digits_value}
use Rattle.std.proofs.lemmas.Bool.{and_parts, leb-true}
use Rattle.std.proofs.lemmas.Str.{digit_value_digit}
use Rattle.std.proofs.lemmas.Int.Digits.{digits_value-lt}
use Rattle.std.proofs.Math.Nat.{pow-le-pow_right}

-- a byte that the test takes lies between '0' and '9'
pub digit_between : (b : ℕ) → is_ascii_digit b ≡ true → (48 ≤ b) × (b ≤ 57)
digit_between b h = let parts = and_parts (nat_le 48 b) (nat_le b 57) h in (leb-true 48 b parts.0, leb-true b 57 parts.1)

-- and its value is its distance from '0'
pub digit_distance : (b : ℕ) → is_ascii_digit b ≡ true → digit_value b ≡ b - 48
digit_distance b h = let range = digit_between b h in omega (arith, digit_value_digit b range)

-- bytes that all pass the test are digits
all_digits : (bytes : List ℕ) → list_all is_ascii_digit bytes ≡ true → AllDigits 10 bytes
all_digits [] h = tt
all_digits (b ∷ bs) h =
    let parts = and_parts (is_ascii_digit b) (list_all is_ascii_digit bs) h in
    let range = digit_between b parts.0 in
    (omega (arith, digit_value_digit b range), all_digits bs parts.1)

-- twenty digits or fewer stay below 10 ^ 20
pub digits_small : (bytes : List ℕ) → list_all is_ascii_digit bytes ≡ true → length bytes ≤ 20 → digits_value 10 bytes < 10 ^ 20
digits_small bytes h short =
    omega (arith, digits_value-lt 10 bytes (all_digits bytes h), pow-le-pow_right {n = 10} (omega arith) short)
