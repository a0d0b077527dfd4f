-- Numbers that are written in decimal, and read back.
use Rattle.std.proofs.Common.{◌≡◌, ◌≤◌, ◌<◌, ◌^◌, ◌∷◌, [], ℕ, List, Some, true, nat_le, refl, length, decimal, All, arith}
use Rattle.std.proofs.lemmas.Bool.{and_from, le-leb, lt-ltb}
use Rattle.std.proofs.lemmas.Fmt.{decimal_is_IsNumeral, decimal_nonempty, length-decimal-le}
use Rattle.std.proofs.lemmas.List.Elements.{All-nil, All-cons}
use Rattle.std.proofs.lemmas.Str.Parse.{digit_from_value}
use Rattle.std.specs.Char.{is_ascii_digit}
use Rattle.std.specs.List.{list_all}
use Rattle.std.specs.Str.Parse.{AllDigits, digits_value}
use Rattle.records_import.specs.Number.{is_number}
use Rattle.http_front.specs.Numbers.{small_number}

-- a digit's byte
abbrev pub IsDigit : ℕ → Type 0
IsDigit b = (48 ≤ b) × (b ≤ 57)

digit_test : (b : ℕ) → IsDigit b → is_ascii_digit b ≡ true
digit_test b h = and_from _ _ (le-leb 48 b h.0) (le-leb b 57 h.1)

digits_test : (bytes : List ℕ) → AllDigits 10 bytes → list_all is_ascii_digit bytes ≡ true
digits_test [] h = refl
digits_test (b ∷ bs) h = and_from _ _ (digit_test b (digit_from_value b h.0)) (digits_test bs h.1)

digits_are : (bytes : List ℕ) → AllDigits 10 bytes → All IsDigit bytes
digits_are [] h = All-nil IsDigit
digits_are (b ∷ bs) h = All-cons IsDigit b bs (digit_from_value b h.0) (digits_are bs h.1)

pub decimal_digits : (n : ℕ) → n < 2 ^ 64 → All IsDigit (decimal n)
decimal_digits n h = digits_are (decimal n) (decimal_is_IsNumeral n h).0.1

pub decimal_test : (n : ℕ) → n < 2 ^ 64 → list_all is_ascii_digit (decimal n) ≡ true
decimal_test n h = digits_test (decimal n) (decimal_is_IsNumeral n h).0.1

pub decimal_value : (n : ℕ) → n < 2 ^ 64 → digits_value 10 (decimal n) ≡ n
decimal_value n h = (decimal_is_IsNumeral n h).1

pub decimal_some : (n : ℕ) → n < 2 ^ 64 → 1 ≤ length (decimal n)
decimal_some n h = omega (arith, decimal_nonempty n h)

pub decimal_few : (n : ℕ) → n < 2 ^ 32 → length (decimal n) ≤ 10
decimal_few n h = length-decimal-le 10 n (omega arith) (omega (arith, h)) (omega (arith, h))

-- a number of 32 bits reads back
pub small_back : (n : ℕ) → n < 2 ^ 32 → small_number (decimal n) ≡ Some n
unfolding small_number
small_back n h =
    let wide : n < 2 ^ 64 = omega (arith, h) in
    let some : nat_le 1 (length (decimal n)) ≡ true = le-leb 1 (length (decimal n)) (decimal_some n wide) in
    let few : nat_le (length (decimal n)) 10 ≡ true = le-leb (length (decimal n)) 10 (decimal_few n h) in
    let number : is_number 10 (decimal n) ≡ true = and_from _ _ (and_from _ _ some few) (decimal_test n wide) in
    rw (number, decimal_value n wide, lt-ltb n (2 ^ 32) h) refl
