-- The head that a client writes is one of the grammar, framed and short, and says what was written.
use Rattle.std.proofs.Common.{◌≡◌, ◌≤◌, ◌<◌, ◌^◌, ◌∷◌, ◌++◌, ◌==◌, [], ℕ, suc, List, Bool, not, nat_le, nat_lt, Option, Some, None, Ok, true, false, refl, sym, ap, ◌∙◌, subst, length, map, reverse, All, IsUtf8, arith, length-append, append_assoc}
use Rattle.std.specs.Prelude.{codes, decimal}
use Rattle.std.specs.List.{flat_map, list_all}
use Rattle.std.proofs.lemmas.Bool.{and_parts, and_from, and_right, or_from, or_right, ltb-true, cond-false, le-leb, leb-true, ne_eqb, not_from_false}
use Rattle.std.proofs.lemmas.Fmt.{length-decimal-le}
use Rattle.std.proofs.lemmas.List.Folds.{list_all-append}
use Rattle.std.proofs.lemmas.List.Elements.{All-nil, All-cons, All-head, All-tail, All-weaker}
use Rattle.httparse.specs.Grammar.{AllPass, Field, IsField, IsRequestHead, crlf, RequestHead, is_ows, is_token_byte, is_uri_byte, is_value_byte, print_field, print_request, skip_ows, trim_ows}
use Rattle.httparse.proofs.TrimLemmas.{AllPass-reverse, trim_ows_space}
use Rattle.http_heads.specs.Fields.{asks_to_close, body_length, fields_of, number_of}
use Rattle.http_heads.specs.Frames.{Frame, IsFramed, is_empty_line, is_full_line, is_line, print_line, print_lines}
use Rattle.http_heads.specs.Limits.{body_limit, digit_limit, head_limit}
use Rattle.http_client.proofs.Numerals.{IsDigit, decimal_digits, decimal_some, decimal_test, decimal_value}
use Rattle.http_front.specs.ReplyHeads.{ended, field}

-- ---- the head as a tree, and as a text

unfoldable pub sent_field : List ℕ → List ℕ → Field
sent_field name value = record { name = name; raw = 32 ∷ value; end = crlf }

length_fields : Option ℕ → List Field
length_fields None = []
length_fields (Some len) = sent_field (codes "Content-Length") (decimal len) ∷ []

sent_fields : List ℕ → Option ℕ → List Field
sent_fields host len = sent_field (codes "Host") host ∷ sent_field (codes "Client-DAAP-Version") (codes "3.0") ∷ length_fields len

pub sent_head : List ℕ → List ℕ → List ℕ → Option ℕ → RequestHead
sent_head method target host len = record {
  blank = [];
  method = method;
  target = target;
  minor = 1;
  line_end = crlf;
  fields = sent_fields host len;
  last = crlf;
}

abbrev pub length_text : Option ℕ → List ℕ
length_text None = []
length_text (Some len) = field (codes "Content-Length") (decimal len)

abbrev pub head_text : List ℕ → List ℕ → List ℕ → Option ℕ → List ℕ
head_text method target host len =
    ended (method ++ (codes " " ++ (target ++ codes " HTTP/1.1")))
    ++ (field (codes "Host") host ++ (field (codes "Client-DAAP-Version") (codes "3.0") ++ (length_text len ++ codes "\r\n")))

line_assoc : (m t w c r : List ℕ) → ((m ++ (32 ∷ (t ++ w))) ++ c) ++ r ≡ m ++ (32 ∷ (t ++ (w ++ (c ++ r))))
line_assoc m t w c r = simp append_assoc

left_assoc : (m t w c r : List ℕ) → (((m ++ (32 ∷ t)) ++ w) ++ c) ++ r ≡ m ++ (32 ∷ (t ++ (w ++ (c ++ r))))
left_assoc m t w c r = simp append_assoc

two_assoc : (a b l c : List ℕ) → (a ++ (b ++ l)) ++ c ≡ a ++ (b ++ (l ++ c))
two_assoc a b l c = simp append_assoc

three_assoc : (a b d l c : List ℕ) → (a ++ (b ++ (d ++ l))) ++ c ≡ a ++ (b ++ (d ++ (l ++ c)))
three_assoc a b d l c = simp append_assoc

section : List ℕ → Option ℕ → List ℕ
section host len = field (codes "Host") host ++ (field (codes "Client-DAAP-Version") (codes "3.0") ++ (length_text len ++ codes "\r\n"))

printed_lengths : (len : Option ℕ) → flat_map print_field (length_fields len) ++ codes "\r\n" ≡ length_text len ++ codes "\r\n"
unfolding length_fields sent_field
printed_lengths None = refl
printed_lengths (Some len) = append_assoc (field (codes "Content-Length") (decimal len)) [] (codes "\r\n")

printed_section : (host : List ℕ) (len : Option ℕ) → flat_map print_field (sent_fields host len) ++ codes "\r\n" ≡ section host len
unfolding sent_fields sent_field section
printed_section host len =
    two_assoc (field (codes "Host") host) (field (codes "Client-DAAP-Version") (codes "3.0")) (flat_map print_field (length_fields len)) (codes "\r\n")
    ∙ ap (λ text. field (codes "Host") host ++ (field (codes "Client-DAAP-Version") (codes "3.0") ++ text)) (printed_lengths len)

pub printed_head : (method target host : List ℕ) (len : Option ℕ) → print_request (sent_head method target host len) ≡ head_text method target host len
unfolding print_request sent_head section
printed_head method target host len =
    left_assoc method target (codes " HTTP/1.1") (codes "\r\n") (flat_map print_field (sent_fields host len) ++ codes "\r\n")
    ∙ ap (λ text. method ++ (32 ∷ (target ++ (codes " HTTP/1.1" ++ (codes "\r\n" ++ text))))) (printed_section host len)
    ∙ sym (line_assoc method target (codes " HTTP/1.1") (codes "\r\n") (section host len))

-- ---- its lines

abbrev pub is_shown : List ℕ → Bool
is_shown line = list_all (λ b. nat_le 32 b) line

shown_both : (xs ys : List ℕ) → is_shown xs ≡ true → is_shown ys ≡ true → is_shown (xs ++ ys) ≡ true
shown_both xs ys p q = list_all-append (λ b. nat_le 32 b) xs ys ∙ and_from _ _ p q

line_shown : (line : List ℕ) → is_shown line ≡ true → is_line (line ++ 13 ∷ []) ≡ true
line_shown [] h = refl
line_shown (b ∷ bs) h =
    let parts = and_parts (nat_le 32 b) (is_shown bs) h in
    let other : (b == 10) ≡ false = ne_eqb b 10 (λ (e : b ≡ 10). let low : 32 ≤ b = leb-true 32 b parts.0 in omega (arith, low, e)) in
    and_from _ _ (not_from_false (b == 10) other) (line_shown bs parts.1)

not_empty : (b : ℕ) (bs : List ℕ) → is_empty_line ((b ∷ bs) ++ 13 ∷ []) ≡ false
not_empty b [] = and_right (b == 13) false refl
not_empty b (c ∷ bs) = and_right (b == 13) false refl

abbrev pub AreLines : List (List ℕ) → Type 0
AreLines [] = Unit {0}
AreLines (line ∷ lines) = (is_shown line ≡ true) × (0 < length line) × AreLines lines

abbrev with_return : List ℕ → List ℕ
with_return line = line ++ 13 ∷ []

full_line : (line : List ℕ) → is_shown line ≡ true → 0 < length line → is_full_line (with_return line) ≡ true
full_line [] h some = absurd (omega (arith, some))
full_line (b ∷ bs) h some = and_from _ _ (line_shown (b ∷ bs) h) (not_from_false (is_empty_line ((b ∷ bs) ++ 13 ∷ [])) (not_empty b bs))

full_lines : (lines : List (List ℕ)) → AreLines lines → list_all is_full_line (map with_return lines) ≡ true
full_lines [] h = refl
full_lines (line ∷ lines) h = and_from _ _ (full_line line h.0 h.1) (full_lines lines h.2)

joined_lines : (lines : List (List ℕ)) → flat_map ended lines ≡ print_lines (map with_return lines)
joined_lines [] = refl
joined_lines (line ∷ lines) =
    ap (λ front. front ++ flat_map ended lines) (sym (append_assoc line (13 ∷ []) (10 ∷ [])))
    ∙ ap (λ rest. print_line (with_return line) ++ rest) (joined_lines lines)

counted : (lines : List (List ℕ)) → length (map with_return lines) ≡ length lines
counted [] = refl
counted (line ∷ lines) = ap suc (counted lines)

-- lines and an empty one are a framed head
pub framed_lines : (line : List ℕ) (lines : List (List ℕ)) → AreLines (line ∷ lines) → IsFramed (flat_map ended (line ∷ lines) ++ codes "\r\n") (length (line ∷ lines))
framed_lines line lines h =
    let full = map with_return (line ∷ lines) in
    let frame : Frame = record { blank = []; full = full; last = 13 ∷ [] } in (
      frame,
      record { blank = refl; full = full_lines (line ∷ lines) h; some = λ (e : full ≡ []). absurd (cc e); last = refl },
      ap (λ text. text ++ codes "\r\n") (joined_lines (line ∷ lines)),
      sym (counted (line ∷ lines)),
    )

abbrev length_lines : Option ℕ → List (List ℕ)
length_lines None = []
length_lines (Some len) = (codes "Content-Length" ++ (codes ": " ++ decimal len)) ∷ []

abbrev head_lines : List ℕ → List ℕ → List ℕ → Option ℕ → List (List ℕ)
head_lines method target host len =
    (method ++ (codes " " ++ (target ++ codes " HTTP/1.1"))) ∷ (codes "Host" ++ (codes ": " ++ host)) ∷ (codes "Client-DAAP-Version" ++ (codes ": " ++ codes "3.0"))
    ∷ length_lines len

lined : (method target host : List ℕ) (len : Option ℕ) → head_text method target host len ≡ flat_map ended (head_lines method target host len) ++ codes "\r\n"
lined method target host len =
    let a = ended (method ++ (codes " " ++ (target ++ codes " HTTP/1.1"))) in
    let b = field (codes "Host") host in
    let d = field (codes "Client-DAAP-Version") (codes "3.0") in
    ap (λ text. a ++ (b ++ (d ++ text))) (by len) ∙ sym (three_assoc a b d (flat_map ended (length_lines len)) (codes "\r\n"))
  where
    by : (len : Option ℕ) → length_text len ++ codes "\r\n" ≡ flat_map ended (length_lines len) ++ codes "\r\n"
    by None = refl
    by (Some len) = sym (append_assoc (field (codes "Content-Length") (decimal len)) [] (codes "\r\n"))

-- how many lines are not empty
abbrev pub line_count : Option ℕ → ℕ
line_count None = 3
line_count (Some len) = 4

-- what the parts of a head are
pub record AreParts (method target host : List ℕ) (len : Option ℕ) : Type 0 where
  pub method_some : 0 < length method
  pub method_is : list_all is_token_byte method ≡ true
  pub method_shown : is_shown method ≡ true
  pub target_some : 0 < length target
  pub target_is : list_all is_uri_byte target ≡ true
  pub target_text : IsUtf8 target
  pub host_is : All (λ b. (33 ≤ b) × (b ≤ 126)) host
  pub len_is : (n : ℕ) → len ≡ Some n → n < 2 ^ 64

shown_uri : (target : List ℕ) → list_all is_uri_byte target ≡ true → is_shown target ≡ true
shown_uri [] h = refl
shown_uri (b ∷ bs) h =
    let parts = and_parts (is_uri_byte b) (list_all is_uri_byte bs) h in
    let low = and_parts (nat_lt 32 b) (not (b == 127)) parts.0 in
    and_from _ _ (le-leb 32 b (let above : 32 < b = ltb-true 32 b low.0 in omega (arith, above))) (shown_uri bs parts.1)

shown_host : (host : List ℕ) → All (λ b. (33 ≤ b) × (b ≤ 126)) host → is_shown host ≡ true
shown_host [] h = refl
shown_host (b ∷ bs) h =
    let P = λ (c : ℕ). (33 ≤ c) × (c ≤ 126) in
    and_from _ _ (le-leb 32 b (omega (arith, (All-head P b bs h).0))) (shown_host bs (All-tail P b bs h))

pub shown_digits : (digits : List ℕ) → All IsDigit digits → is_shown digits ≡ true
shown_digits [] h = refl
shown_digits (b ∷ bs) h = and_from _ _ (le-leb 32 b (omega (arith, (All-head IsDigit b bs h).0))) (shown_digits bs (All-tail IsDigit b bs h))

some_behind : (xs ys : List ℕ) → 0 < length xs → 0 < length (xs ++ ys)
some_behind xs ys h = simp length-append (omega (arith, h))

are_length_lines : (len : Option ℕ) → ((n : ℕ) → len ≡ Some n → n < 2 ^ 64) → AreLines (length_lines len)
are_length_lines None h = tt
are_length_lines (Some len) h = (shown_digits (decimal len) (decimal_digits len (h len refl)), omega arith, tt)

are_head_lines : (method target host : List ℕ) (len : Option ℕ) → AreParts method target host len → AreLines (head_lines method target host len)
are_head_lines method target host len h = (
  shown_both method _ h.method_shown (shown_both target (codes " HTTP/1.1") (shown_uri target h.target_is) refl),
  some_behind method (codes " " ++ (target ++ codes " HTTP/1.1")) h.method_some,
  (shown_host host h.host_is, omega arith, (refl, omega arith, are_length_lines len h.len_is)),
)

line_number : (method target host : List ℕ) (len : Option ℕ) → length (head_lines method target host len) ≡ line_count len
line_number method target host None = refl
line_number method target host (Some len) = refl

pub head_framed : (method target host : List ℕ) (len : Option ℕ) → AreParts method target host len → IsFramed (head_text method target host len) (line_count len)
head_framed method target host len h =
    let lines = head_lines method target host len in
    let framed : IsFramed (flat_map ended lines ++ codes "\r\n") (length lines) =
    framed_lines (method ++ (codes " " ++ (target ++ codes " HTTP/1.1")))
    ((codes "Host" ++ (codes ": " ++ host)) ∷ (codes "Client-DAAP-Version" ++ (codes ": " ++ codes "3.0")) ∷ length_lines len)
    (are_head_lines method target host len h) in
    subst (λ (n : ℕ). IsFramed (head_text method target host len) n) (line_number method target host len)
    (subst (λ (text : List ℕ). IsFramed text (length lines)) (sym (lined method target host len)) framed)

-- ---- it is a head of the grammar

pub passes : (test : ℕ → Bool) (bytes : List ℕ) → list_all test bytes ≡ true → AllPass test bytes
passes test [] h = All-nil (λ b. test b ≡ true)
passes test (b ∷ bs) h =
    let parts = and_parts (test b) (list_all test bs) h in All-cons (λ b. test b ≡ true) b bs parts.0 (passes test bs parts.1)

value_byte : (b : ℕ) → 32 ≤ b → b ≤ 126 → is_value_byte b ≡ true
value_byte b low high = or_right (b == 9) _ (and_from _ _ (le-leb 32 b low) (not_from_false (b == 127) (ne_eqb b 127 (λ (e : b ≡ 127). omega (arith, high, e)))))

host_byte : (b : ℕ) → (33 ≤ b) × (b ≤ 126) → is_value_byte b ≡ true
host_byte b h = value_byte b (omega (arith, h.0)) h.1

pub digit_byte : (b : ℕ) → IsDigit b → is_value_byte b ≡ true
digit_byte b h = value_byte b (omega (arith, h.0)) (omega (arith, h.1))

pub field_is : (name value : List ℕ) → 0 < length name → list_all is_token_byte name ≡ true → AllPass is_value_byte value → IsField (sent_field name value)
unfolding sent_field
field_is name value some token h =
    record { name = (some, passes is_token_byte name token); raw = All-cons (λ b. is_value_byte b ≡ true) 32 value refl h }

length_fields_are : (len : Option ℕ) → ((n : ℕ) → len ≡ Some n → n < 2 ^ 64) → All IsField (length_fields len)
unfolding length_fields is_token_byte
length_fields_are None h = All-nil IsField
length_fields_are (Some len) h =
    All-cons IsField (sent_field (codes "Content-Length") (decimal len)) []
    (field_is (codes "Content-Length") (decimal len) (omega arith) refl (All-weaker IsDigit (λ b. is_value_byte b ≡ true) digit_byte (decimal len) (decimal_digits len (h len refl))))
    (All-nil IsField)

fields_are : (method target host : List ℕ) (len : Option ℕ) → AreParts method target host len → All IsField (sent_fields host len)
unfolding sent_fields is_token_byte
fields_are method target host len h =
    All-cons IsField (sent_field (codes "Host") host) (sent_field (codes "Client-DAAP-Version") (codes "3.0") ∷ length_fields len) (field_is (codes "Host") host (omega arith) refl (All-weaker (λ b. (33 ≤ b) × (b ≤ 126)) (λ b. is_value_byte b ≡ true) host_byte host h.host_is))
    (All-cons IsField (sent_field (codes "Client-DAAP-Version") (codes "3.0")) (length_fields len)
    (field_is (codes "Client-DAAP-Version") (codes "3.0") (omega arith) refl (passes is_value_byte (codes "3.0") refl))
    (length_fields_are len h.len_is))

pub head_is : (method target host : List ℕ) (len : Option ℕ) → AreParts method target host len → IsRequestHead (sent_head method target host len)
unfolding sent_head
head_is method target host len h = record {
  method = (h.method_some, passes is_token_byte method h.method_is);
  target = (h.target_some, passes is_uri_byte target h.target_is);
  target_text = h.target_text;
  minor = omega arith;
  fields = fields_are method target host len h;
}

pub few_fields : (method target host : List ℕ) (len : Option ℕ) → length (sent_head method target host len).fields ≤ 64
unfolding sent_head sent_fields length_fields
few_fields method target host None = omega arith
few_fields method target host (Some len) = omega arith

-- the parts of the head that was sent
pub sent_method : (method target host : List ℕ) (len : Option ℕ) → (sent_head method target host len).method ≡ method
unfolding sent_head
sent_method method target host len = refl

pub sent_target : (method target host : List ℕ) (len : Option ℕ) → (sent_head method target host len).target ≡ target
unfolding sent_head
sent_target method target host len = refl

-- ---- what its fields say

not_ows : (b : ℕ) → IsDigit b → is_ows b ≡ false
not_ows b h = or_from (b == 32) (b == 9) (ne_eqb b 32 (λ (e : b ≡ 32). omega (arith, h.0, e))) (ne_eqb b 9 (λ (e : b ≡ 9). omega (arith, h.0, e)))

abbrev is_plain : ℕ → Bool
is_plain b = not (is_ows b)

not_is : (x : Bool) → not x ≡ true → x ≡ false
not_is true h = absurd (cc h)
not_is false h = refl

plain_stays : (bytes : List ℕ) → AllPass is_plain bytes → skip_ows bytes ≡ bytes
plain_stays [] h = refl
plain_stays (b ∷ bs) h = cond-false _ _ _ (not_is (is_ows b) (All-head (λ b. is_plain b ≡ true) b bs h))

digit_plain : (b : ℕ) → IsDigit b → is_plain b ≡ true
digit_plain b h = not_from_false (is_ows b) (not_ows b h)

pub trimmed : (n : ℕ) → n < 2 ^ 64 → trim_ows (32 ∷ decimal n) ≡ decimal n
trimmed n h =
    let plain = All-weaker IsDigit (λ b. is_plain b ≡ true) digit_plain (decimal n) (decimal_digits n h) in
    trim_ows_space (decimal n) (plain_stays (decimal n) plain) (plain_stays (reverse (decimal n)) (AllPass-reverse is_plain (decimal n) plain))

pub length_back : (n : ℕ) → n < 2 ^ 64 → number_of (decimal n) ≡ Some n
unfolding number_of
length_back n wide =
    let some : nat_le 1 (length (decimal n)) ≡ true = le-leb 1 (length (decimal n)) (decimal_some n wide) in
    let few : nat_le (length (decimal n)) digit_limit ≡ true = le-leb (length (decimal n)) digit_limit (length-decimal-le 20 n (omega arith) (omega (arith, wide)) wide) in
    rw (and_from _ _ (and_from _ _ some few) (decimal_test n wide), decimal_value n wide) refl

-- the length of the body
abbrev pub told_len : Option ℕ → ℕ
told_len None = 0
told_len (Some len) = len

pub length_told : (method target host : List ℕ) (len : Option ℕ) → told_len len ≤ body_limit → body_length (fields_of (sent_head method target host len).fields) ≡ Ok (told_len len)
unfolding sent_head sent_fields sent_field length_fields
length_told method target host None h = refl
length_told method target host (Some len) h =
    rw (trimmed len (omega (arith, h)), length_back len (omega (arith, h)), le-leb len body_limit h) refl

pub stays_open : (method target host : List ℕ) (len : Option ℕ) → asks_to_close (sent_head method target host len).minor (fields_of (sent_head method target host len).fields) ≡ false
unfolding sent_head sent_fields sent_field length_fields
stays_open method target host None = refl
stays_open method target host (Some len) = refl

-- ---- how long it is

length_size : (len : Option ℕ) → ((n : ℕ) → len ≡ Some n → n < 2 ^ 64) → length (length_text len) ≤ 38
length_size None h = omega arith
length_size (Some len) h =
    let small : len < 2 ^ 64 = h len refl in
    let few : length (decimal len) ≤ 20 = length-decimal-le 20 len (omega arith) (omega (arith, small)) small in
    simp length-append (omega (arith, few))

pub head_short : (method target host : List ℕ) (len : Option ℕ) → AreParts method target host len → length method ≤ 4 → length target ≤ 16000 → length host ≤ 255
    → length (head_text method target host len) ≤ head_limit
head_short method target host len h m t k =
    let size = length_size len h.len_is in
    simp length-append (omega (arith, m, t, k, size))
