use Rattle.std.proofs.Common.{◌≡◌, ◌≤◌, ◌<◌, ◌+◌, ◌*◌, ◌-◌, sym, true, take, length, get_or, arith}
use Rattle.std.proofs.lemmas.Int.Digits.{digits_value_more}
use Rattle.std.proofs.lemmas.List.{length-take-le}
use Rattle.std.proofs.lemmas.List.Folds.{list_all_more}
use Rattle.std.specs.Char.{is_ascii_digit}
use Rattle.std.specs.List.{list_all}
use Rattle.std.specs.Str.Parse.{digits_value}
use Rattle.records_import.proofs.Digits.{digit_distance, digits_small}
use Rattle.records_import.proofs.number.read_number.Goals as goal

-- one more digit
pub loop-byte-preserved : goal.loop-byte-preserved
loop-byte-preserved c =
    let bytes = c.args.digits.now in
    let i = c.loop-byte.byte-index in
    let inv = c.loop-byte.invariant in
    let inside : i < length bytes = omega arith in
    let more : i + 1 ≤ length bytes = omega arith in
    let digit = sym c.if-not-is_ascii_digit.ensures.value in
    let digits : list_all is_ascii_digit (take (i + 1) bytes) ≡ true = rw (list_all_more is_ascii_digit bytes i 0 inside, inv.digits) digit in
    let written : c.loop-byte.value * 10 + (get_or bytes i 0 - 48) ≡ digits_value 10 (take (i + 1) bytes) =
    omega (arith, digits_value_more 10 bytes i inside, digit_distance (get_or bytes i 0) digit, inv.written) in
    let short : length (take (i + 1) bytes) ≤ 20 = rw (length-take-le (i + 1) bytes more) (omega arith) in
    record { digits = digits; written = written; small = rw written (digits_small (take (i + 1) bytes) digits short) }
