-- What `parse` makes of a text of digits.
use Rattle.std.proofs.Common.{◌≡◌, ◌<◌, ◌≤◌, ◌&&◌, ◌^◌, ℕ, [], ◌∷◌, Bool, true, Some, None, Result, Ok, Err, ap, refl, arith, sym, ◌∙◌, length, nat_le}
use Rattle.std.specs.Prelude.{if◌then◌else◌}
use Rattle.std.proofs.lemmas.Bool.{and_from, and_parts, le-leb, leb-true, false_from_ne_true}
use Rattle.std.proofs.lemmas.Str.Parse.{numerals_by_value, parse_digits, tells_all_ascii_digits}
use Rattle.std.specs.Char.{is_ascii_digit}
use Rattle.std.specs.List.{list_all}
use Rattle.std.specs.Result.{OkIff, result_ok}
use Rattle.std.specs.Str.{all_ascii_digits}
use Rattle.std.specs.Str.Parse.{ParsesUnsigned, digits_value}
use Rattle.clap.specs.Words.{Text}
use Rattle.daapshare_words.specs.Numbers.{is_number_word, number_of_word}

-- the definitions of std and of `clap` for texts of digits only are the same
alike : (word : Text) → list_all is_ascii_digit word ≡ all_ascii_digits word
alike [] = refl
alike (c ∷ cs) = ap (λ b. is_ascii_digit c && b) (alike cs)

-- a number is read exactly if it is in its range
ok_value : {E : Type 0} (r : Result ℕ E) (some small : Bool) (P : Type 0) (v : ℕ) → OkIff r P v → (P → (some && small) ≡ true) → ((some && small) ≡ true → P)
    → result_ok r ≡ (if some && small then Some v else None)
ok_value (Ok x) some small P v h to from = rw (to h.0, h.1) refl
ok_value (Err e) some small P v h to from = rw (false_from_ne_true (some && small) (λ t. h (from t))) refl

-- a text of at most ten digits is read as `number_of_word` says
pub parsed : {E : Type 0} (word : Text) (r : Result ℕ E) → length word ≤ 10 → list_all is_ascii_digit word ≡ true → ParsesUnsigned 32 10 word r
    → result_ok r ≡ number_of_word word
parsed word r short digits h =
    let v = digits_value 10 word in
    let told = parse_digits (numerals_by_value (λ ds. all_ascii_digits ds ≡ true) tells_all_ascii_digits) 32 word r h (sym (alike word) ∙ digits) in
    ok_value r (is_number_word word) (nat_le v 4294967295) ((0 < length word) × (v < 2 ^ 32)) v told
    (λ p. and_from (is_number_word word) (nat_le v 4294967295)
    (and_from (nat_le 1 (length word)) _ (le-leb _ _ (let some : 0 < length word = p.0 in omega arith)) (and_from (nat_le (length word) 10) _ (le-leb _ _ short) digits))
    (le-leb _ _ (let small : v < 2 ^ 32 = p.1 in omega arith)))
    (λ e. let parts = and_parts (is_number_word word) (nat_le v 4294967295) e in
    let some : 1 ≤ length word = leb-true _ _ (and_parts (nat_le 1 (length word)) _ parts.0).0 in
    let small : v ≤ 4294967295 = leb-true _ _ parts.1 in
    (omega arith, omega arith))
