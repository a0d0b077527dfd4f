-- Written cells read back as their values.
use Rattle.std.proofs.Common.{◌≡◌, ◌≤◌, ◌<◌, ◌^◌, ◌∷◌, ◌&&◌, [], ℕ, List, Some, None, true, false, nat_le, nat_lt, Ok, IsUtf8, refl, ap, length, decimal, arith}
use Rattle.std.proofs.lemmas.Bool.{and_from, and_parts, le-leb, ltb-true}
use Rattle.std.proofs.lemmas.Fmt.{decimal_is_IsNumeral, decimal_nonempty, length-decimal-le}
use Rattle.std.proofs.lemmas.Str.{is_utf8-from_IsUtf8}
use Rattle.std.specs.Str.Parse.{digits_value}
use Rattle.dmap_tags.specs.declared.kinds.Kind.{Kind}
use Rattle.dmap_tags.specs.declared.kinds.Kind.TheVariants as kind
use Rattle.item_model.specs.Items.{is_of_kind, is_value_of, numbers_of, with_value}
use Rattle.item_model.specs.Properties.{property_kind}
use Rattle.item_model.specs.declared.item.PropValue.{PropValue}
use Rattle.item_model.specs.declared.item.PropValue.TheVariants.{Number, Text}
use Rattle.item_model.specs.Limits.{text_limit}
use Rattle.item_model.specs.declared.property.Property.{Property}
use Rattle.records_import.specs.Limits.{cell_digits}
use Rattle.records_import.specs.Number.{is_number, cell_number}
use Rattle.records_import.specs.Records.{Properties, with_cell, with_property}
use Rattle.records_import.specs.Values.{by_kind, id_in, is_empty, needed_id, number_from, property_flaw, property_in, text_in}
use Rattle.records_import.specs.Written.{value_cell}
use Rattle.records_import.specs.declared.header.Column.TheVariants as holds
use Rattle.records_import.proofs.Digits.{are_decimal}

-- a number in plain decimal is one to twenty digits
is_number_written : (n : ℕ) → n < 2 ^ 64 → is_number cell_digits (decimal n) ≡ true
is_number_written n h =
    let some : 1 ≤ length (decimal n) = omega (arith, decimal_nonempty n h) in
    let few : length (decimal n) ≤ 20 = length-decimal-le 20 n (omega arith) (omega arith) h in
    and_from _ _ (and_from _ _ (le-leb 1 (length (decimal n)) some) (le-leb (length (decimal n)) 20 few)) (are_decimal.from (decimal n) (decimal_is_IsNumeral n h).0.1)

pub number_back : (n : ℕ) → n < 2 ^ 64 → cell_number (decimal n) ≡ Some n
number_back n h = rw (is_number_written n h) (ap Some (decimal_is_IsNumeral n h).1)

filled : (cell : List ℕ) → 0 < length cell → is_empty cell ≡ false
filled [] h = absurd (omega arith)
filled (b ∷ bytes) h = refl

number_filled : (n : ℕ) → n < 2 ^ 64 → is_empty (decimal n) ≡ false
number_filled n h = filled (decimal n) (decimal_nonempty n h)

narrow : (least n : ℕ) → (nat_le least n && nat_lt n (2 ^ 32)) ≡ true → n < 2 ^ 64
narrow least n h = let parts = and_parts (nat_le least n) (nat_lt n (2 ^ 32)) h in omega (arith, ltb-true n (2 ^ 32) parts.1)

-- an id in its range reads back, also if the record needs it
pub id_back : (least n : ℕ) → (nat_le least n && nat_lt n (2 ^ 32)) ≡ true → id_in least (decimal n) ≡ Ok n
id_back least n h = rw (number_back n (narrow least n h)) (rw h refl)

pub needed_back : (least n : ℕ) → (nat_le least n && nat_lt n (2 ^ 32)) ≡ true → needed_id least (decimal n) ≡ Ok n
needed_back least n h = rw (number_filled n (narrow least n h)) (id_back least n h)

pub digits_back : (least n : ℕ) → (nat_le least n && nat_lt n (2 ^ 32)) ≡ true → digits_value 10 (decimal n) ≡ n
digits_back least n h = (decimal_is_IsNumeral n (narrow least n h)).1

-- no kind has numbers of more than 64 bits
few_numbers : (k : Kind) → numbers_of k ≤ 2 ^ 64
few_numbers kind.U8 = omega arith
few_numbers kind.I8 = omega arith
few_numbers kind.U16 = omega arith
few_numbers kind.I16 = omega arith
few_numbers kind.U32 = omega arith
few_numbers kind.I32 = omega arith
few_numbers kind.U64 = omega arith
few_numbers kind.I64 = omega arith
few_numbers kind.Text = omega arith
few_numbers kind.Date = omega arith
few_numbers kind.Version = omega arith
few_numbers kind.List = omega arith
few_numbers kind.Opaque = omega arith

small : (p : Property) (n : ℕ) → is_value_of p (Number n) ≡ true → n < 2 ^ 64
small p n h = omega (arith, ltb-true n (numbers_of (property_kind p)) h, few_numbers (property_kind p))

-- the number of a property reads back
number_from_back : (p : Property) (n : ℕ) → is_value_of p (Number n) ≡ true → number_from p (cell_number (decimal n)) ≡ Ok (Number n)
number_from_back p n h = rw (number_back n (small p n h)) (rw h refl)

number_by : (k : Kind) (p : Property) (n : ℕ) → is_of_kind k (Number n) ≡ true → is_value_of p (Number n) ≡ true → by_kind k p (decimal n) ≡ Ok (Number n)
number_by kind.Text p n h v = absurd (omega (arith, ltb-true n 0 h))
number_by kind.U8 p n h v = number_from_back p n v
number_by kind.I8 p n h v = number_from_back p n v
number_by kind.U16 p n h v = number_from_back p n v
number_by kind.I16 p n h v = number_from_back p n v
number_by kind.U32 p n h v = number_from_back p n v
number_by kind.I32 p n h v = number_from_back p n v
number_by kind.U64 p n h v = number_from_back p n v
number_by kind.I64 p n h v = number_from_back p n v
number_by kind.Date p n h v = number_from_back p n v
number_by kind.Version p n h v = number_from_back p n v
number_by kind.List p n h v = number_from_back p n v
number_by kind.Opaque p n h v = number_from_back p n v

-- a text that is not too long reads back
pub text_back : (text : List ℕ) → IsUtf8 text → nat_le (length text) text_limit ≡ true → text_in text ≡ Ok (Text text)
text_back text utf8 short = rw (is_utf8-from_IsUtf8 text utf8, short) refl

text_by : (k : Kind) (p : Property) (text : List ℕ) → is_of_kind k (Text text) ≡ true → IsUtf8 text → by_kind k p text ≡ Ok (Text text)
text_by kind.Text p text h utf8 = text_back text utf8 (and_parts (nat_lt 0 (length text)) (nat_le (length text) text_limit) h).1
text_by kind.U8 p text h utf8 = absurd (cc h)
text_by kind.I8 p text h utf8 = absurd (cc h)
text_by kind.U16 p text h utf8 = absurd (cc h)
text_by kind.I16 p text h utf8 = absurd (cc h)
text_by kind.U32 p text h utf8 = absurd (cc h)
text_by kind.I32 p text h utf8 = absurd (cc h)
text_by kind.U64 p text h utf8 = absurd (cc h)
text_by kind.I64 p text h utf8 = absurd (cc h)
text_by kind.Date p text h utf8 = absurd (cc h)
text_by kind.Version p text h utf8 = absurd (cc h)
text_by kind.List p text h utf8 = absurd (cc h)
text_by kind.Opaque p text h utf8 = absurd (cc h)

text_some : (k : Kind) (text : List ℕ) → is_of_kind k (Text text) ≡ true → 0 < length text
text_some kind.Text text h = ltb-true 0 (length text) (and_parts (nat_lt 0 (length text)) (nat_le (length text) text_limit) h).0
text_some kind.U8 text h = absurd (cc h)
text_some kind.I8 text h = absurd (cc h)
text_some kind.U16 text h = absurd (cc h)
text_some kind.I16 text h = absurd (cc h)
text_some kind.U32 text h = absurd (cc h)
text_some kind.I32 text h = absurd (cc h)
text_some kind.U64 text h = absurd (cc h)
text_some kind.I64 text h = absurd (cc h)
text_some kind.Date text h = absurd (cc h)
text_some kind.Version text h = absurd (cc h)
text_some kind.List text h = absurd (cc h)
text_some kind.Opaque text h = absurd (cc h)

-- the value of a property reads back, and its cell is not empty
pub value_back : (p : Property) (v : PropValue) → is_value_of p v ≡ true → IsUtf8 (value_cell (Some v)) → property_in p (value_cell (Some v)) ≡ Ok v
value_back p (Number n) h utf8 = number_by (property_kind p) p n h h
value_back p (Text text) h utf8 = text_by (property_kind p) p text h utf8

pub value_filled : (p : Property) (v : PropValue) → is_value_of p v ≡ true → is_empty (value_cell (Some v)) ≡ false
value_filled p (Number n) h = number_filled n (small p n h)
value_filled p (Text text) h = filled text (text_some (property_kind p) text h)

taken_by : (p : Property) (cell : List ℕ) (v : PropValue) (item : Properties) → is_empty cell ≡ false → property_in p cell ≡ Ok v
    → with_cell (holds.Property p) cell item ≡ with_value p v item
taken_by p [] v item some reads = absurd (cc some)
taken_by p (b ∷ bytes) v item some reads = ap (λ r. with_property p r item) reads

-- so the cell of a value sets the value
pub value_taken : (p : Property) (v : PropValue) (item : Properties) → is_value_of p v ≡ true → IsUtf8 (value_cell (Some v))
    → with_cell (holds.Property p) (value_cell (Some v)) item ≡ with_value p v item
value_taken p v item h utf8 = taken_by p (value_cell (Some v)) v item (value_filled p v h) (value_back p v h utf8)

-- and it is not malformed
pub value_sound : (p : Property) (v : PropValue) → is_value_of p v ≡ true → IsUtf8 (value_cell (Some v)) → None ≡ property_flaw p (value_cell (Some v))
value_sound p v h utf8 = rw (value_filled p v h, value_back p v h utf8) refl
