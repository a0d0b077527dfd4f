-- Bytes that are decimal digits, and their number.
use Rattle.std.proofs.Common.{◌≡◌, ◌≤◌, ◌<◌, ◌-◌, ◌^◌, ℕ, List, true, refl, arith, length}
use Rattle.std.specs.Char.{digit_value, is_ascii_digit}
use Rattle.std.specs.Int.{IsInRange}
use Rattle.std.specs.List.{list_all}
use Rattle.std.specs.Str.Parse.{digits_value}
use Rattle.std.proofs.lemmas.Bool.{and_from, and_parts, le-leb, leb-true}
use Rattle.std.proofs.lemmas.Str.{digit_value_digit}
use Rattle.std.proofs.lemmas.Str.Parse.{IsDigitsTest, IsNumeralModel, numerals_by_value}
use Rattle.std.proofs.lemmas.Int.Digits.{digits_value-lt}
use Rattle.std.proofs.Math.Nat.{pow-le-pow_right}

abbrev AreDigits : List ℕ → Type 0
AreDigits bytes = list_all is_ascii_digit bytes ≡ true

is_between : (b : ℕ) → is_ascii_digit b ≡ true → IsInRange 48 57 b
is_between b h = let ends = and_parts _ _ h in (leb-true 48 b ends.0, leb-true b 57 ends.1)

tells_bytes : IsDigitsTest AreDigits
tells_bytes = record {
  empty = refl;
  parts = λ b bytes h. let two = and_parts (is_ascii_digit b) (list_all is_ascii_digit bytes) h in (is_between b two.0, two.1);
  more = λ b bytes range h. and_from _ _ (and_from _ _ (le-leb 48 b range.0) (le-leb b 57 range.1)) h;
}

-- the bytes that all pass the test are exactly the decimal digits
pub are_decimal : IsNumeralModel AreDigits (digits_value 10)
are_decimal = numerals_by_value AreDigits tells_bytes

-- the value of a byte that passes is its distance from '0'
pub digit_distance : (b : ℕ) → is_ascii_digit b ≡ true → digit_value b ≡ b - 48
digit_distance b h = omega (arith, digit_value_digit b (is_between b h), (is_between b h).0)

-- the number of twenty digits or fewer is below 10 ^ 20
pub digits_small : (bytes : List ℕ) → list_all is_ascii_digit bytes ≡ true → length bytes ≤ 20 → digits_value 10 bytes < 10 ^ 20
digits_small bytes h short =
    omega (arith, digits_value-lt 10 bytes (are_decimal.to bytes h), pow-le-pow_right {n = 10} (omega arith) short)
