-- The head that a share writes for records with an error is one of the grammar, framed and short, and says what was
-- written.
use Rattle.std.proofs.Common.{◌≡◌, ◌≤◌, ◌<◌, ◌+◌, ◌/◌, ◌%◌, ◌==◌, ◌^◌, ◌∷◌, ◌++◌, [], ℕ, zero, suc, List, Bool, true, false, Some, refl, sym, ap, ◌∙◌, subst, length, All, append_assoc, append-nil, length-append, arith}
use Rattle.std.specs.Prelude.{codes, decimal}
use Rattle.std.specs.Fmt.{digit_glyph, digits, digits_onto}
use Rattle.std.specs.Char.{is_ascii_digit}
use Rattle.std.specs.List.{flat_map}
use Rattle.std.proofs.lemmas.Bool.{cond_both, le-leb}
use Rattle.std.proofs.lemmas.Fmt.{length-decimal-le}
use Rattle.std.proofs.lemmas.List.Elements.{All-nil, All-cons, All-weaker}
use Rattle.httparse.specs.Grammar.{Field, IsField, IsResponseHead, ResponseHead, crlf, is_token_byte, is_value_byte, print_field, print_response, status_code}
use Rattle.item_model.specs.declared.refusal.QueryError.{QueryError}
use Rattle.item_model.specs.declared.refusal.QueryError.TheVariants as query
use Rattle.item_model.specs.declared.refusal.QueryWhy.TheVariants as cause
use Rattle.item_model.specs.declared.refusal.RecordWhy.{RecordWhy}
use Rattle.item_model.specs.declared.refusal.RecordWhy.TheVariants as reason
use Rattle.records_import.specs.declared.refusal.RecordError.{RecordError}
use Rattle.records_import.specs.declared.refusal.RecordError.TheVariants as records
use Rattle.fault_lines.specs.Queries.{query_text}
use Rattle.fault_lines.specs.Records.{cell_reason, records_line}
use Rattle.http_heads.specs.Frames.{IsFramed}
use Rattle.http_heads.specs.Heads.{IsReplyHead, reply_tells}
use Rattle.http_heads.specs.Limits.{head_limit, reply_limit}
use Rattle.http_client.specs.Replies.{IsReply}
use Rattle.http_client.proofs.HeadsBack.{AreLines, digit_byte, field_is, framed_lines, length_back, passes, sent_field, shown_digits, trimmed}
use Rattle.http_client.proofs.Numerals.{IsDigit, decimal_digits}
use Rattle.http_front.specs.ReplyHeads.{allow_field, ended, last_field, length_field, reply_head_text, status_line, type_field}
use Rattle.share_asks.specs.declared.form.BodyForm.TheVariants.{Plain}

-- ---- the head as a tree

last_fields : Bool → List Field
last_fields true = sent_field (codes "Connection") (codes "close") ∷ []
last_fields false = []

line_fields : ℕ → Bool → List Field
line_fields len last =
    sent_field (codes "Content-Type") (codes "text/plain") ∷ sent_field (codes "Content-Length") (decimal len) ∷ last_fields last

line_head : ℕ → Bool → ResponseHead
line_head len last =
    record { blank = []; minor = 1; digits = codes "400"; reason = Some (codes "Bad Request"); line_end = crlf; fields = line_fields len last; last = crlf }

-- the parts of a head's text, and of fields, one after the other
parts : (s t l a e c : List ℕ) → (s ++ t ++ l ++ a ++ e) ++ c ≡ s ++ (t ++ (l ++ (a ++ (e ++ c))))
parts s t l a e c = simp append_assoc

fields : (p q r c : List ℕ) → (p ++ (q ++ r)) ++ c ≡ p ++ (q ++ (r ++ c))
fields p q r c = simp append_assoc

lines : (p q r l c : List ℕ) → (p ++ (q ++ (r ++ l))) ++ c ≡ p ++ (q ++ (r ++ (l ++ c)))
lines p q r l c = simp append_assoc

line_parts : (len : ℕ) (last : Bool)
    → reply_head_text 400 Plain len last
    ≡ status_line 400 ++ (type_field Plain ++ (length_field 400 len ++ (allow_field Plain ++ (last_field last ++ codes "\r\n"))))
unfolding reply_head_text
line_parts len last = parts (status_line 400) (type_field Plain) (length_field 400 len) (allow_field Plain) (last_field last) (codes "\r\n")

line_section : (len : ℕ) (last : Bool)
    → flat_map print_field (line_fields len last) ++ codes "\r\n"
    ≡ print_field (sent_field (codes "Content-Type") (codes "text/plain"))
    ++ (print_field (sent_field (codes "Content-Length") (decimal len)) ++ (flat_map print_field (last_fields last) ++ codes "\r\n"))
unfolding line_fields
line_section len last =
    fields (print_field (sent_field (codes "Content-Type") (codes "text/plain"))) (print_field (sent_field (codes "Content-Length") (decimal len)))
    (flat_map print_field (last_fields last)) (codes "\r\n")

line_printed : (len : ℕ) (last : Bool) → reply_head_text 400 Plain len last ≡ print_response (line_head len last) ++ []
unfolding line_head last_fields sent_field print_response digits
line_printed len true =
    line_parts len true ∙ sym (ap (λ (text : List ℕ). codes "HTTP/1.1 400 Bad Request\r\n" ++ text) (line_section len true)) ∙ sym (append-nil (print_response (line_head len true)))
line_printed len false =
    line_parts len false ∙ sym (ap (λ (text : List ℕ). codes "HTTP/1.1 400 Bad Request\r\n" ++ text) (line_section len false)) ∙ sym (append-nil (print_response (line_head len false)))

-- ---- its lines

last_lines : Bool → List (List ℕ)
last_lines true = codes "Connection: close" ∷ []
last_lines false = []

are_last : (last : Bool) → AreLines (last_lines last)
unfolding last_lines
are_last true = (refl, omega arith, tt)
are_last false = tt

line_lined : (len : ℕ) (last : Bool)
    → reply_head_text 400 Plain len last
    ≡ flat_map ended (codes "HTTP/1.1 400 Bad Request" ∷ codes "Content-Type: text/plain" ∷ (codes "Content-Length: " ++ decimal len) ∷ last_lines last) ++ codes "\r\n"
unfolding last_lines digits
line_lined len true =
    line_parts len true ∙ sym (lines (ended (codes "HTTP/1.1 400 Bad Request")) (ended (codes "Content-Type: text/plain")) (ended (codes "Content-Length: " ++ decimal len))
    (flat_map ended (last_lines true)) (codes "\r\n"))
line_lined len false =
    line_parts len false ∙ sym (lines (ended (codes "HTTP/1.1 400 Bad Request")) (ended (codes "Content-Type: text/plain")) (ended (codes "Content-Length: " ++ decimal len))
    (flat_map ended (last_lines false)) (codes "\r\n"))

line_framed : (len : ℕ) (last : Bool) → len < 2 ^ 64 → (lines : ℕ) × IsFramed (reply_head_text 400 Plain len last) lines
line_framed len last small = (
  length (codes "HTTP/1.1 400 Bad Request" ∷ codes "Content-Type: text/plain" ∷ (codes "Content-Length: " ++ decimal len) ∷ last_lines last),
  subst (λ (text : List ℕ). IsFramed text (length (codes "HTTP/1.1 400 Bad Request" ∷ codes "Content-Type: text/plain" ∷ (codes "Content-Length: " ++ decimal len) ∷ last_lines last))) (sym (line_lined len last))
      (framed_lines (codes "HTTP/1.1 400 Bad Request") (codes "Content-Type: text/plain" ∷ (codes "Content-Length: " ++ decimal len) ∷ last_lines last)
      (refl, omega arith, (refl, omega arith, (shown_digits (decimal len) (decimal_digits len small), omega arith, are_last last)))),
)

-- ---- it is a head of the grammar

last_is : (last : Bool) → All IsField (last_fields last)
unfolding last_fields is_token_byte
last_is true =
    All-cons IsField (sent_field (codes "Connection") (codes "close")) []
    (field_is (codes "Connection") (codes "close") (omega arith) refl (passes is_value_byte (codes "close") refl)) (All-nil IsField)
last_is false = All-nil IsField

line_fields_are : (len : ℕ) (last : Bool) → len < 2 ^ 64 → All IsField (line_fields len last)
unfolding line_fields is_token_byte
line_fields_are len last small =
    All-cons IsField (sent_field (codes "Content-Type") (codes "text/plain")) (sent_field (codes "Content-Length") (decimal len) ∷ last_fields last)
    (field_is (codes "Content-Type") (codes "text/plain") (omega arith) refl (passes is_value_byte (codes "text/plain") refl))
    (All-cons IsField (sent_field (codes "Content-Length") (decimal len)) (last_fields last)
    (field_is (codes "Content-Length") (decimal len) (omega arith) refl
    (All-weaker IsDigit (λ b. is_value_byte b ≡ true) digit_byte (decimal len) (decimal_digits len small))) (last_is last))

line_is : (len : ℕ) (last : Bool) → len < 2 ^ 64 → IsResponseHead (line_head len last)
unfolding line_head
line_is len last small = record {
  minor = omega arith;
  digits = (refl, passes is_ascii_digit (codes "400") refl);
  reason = passes is_value_byte (codes "Bad Request") refl;
  fields = line_fields_are len last small;
}

line_few : (len : ℕ) (last : Bool) → length (line_head len last).fields ≤ 64
unfolding line_head line_fields last_fields
line_few len true = omega arith
line_few len false = omega arith

-- ---- what it says

line_told : (len : ℕ) (last : Bool) → len ≤ reply_limit → reply_tells (line_head len last) ≡ Some len
unfolding line_head line_fields last_fields sent_field
line_told len true h = rw (trimmed len (omega (arith, h)), length_back len (omega (arith, h)), le-leb len reply_limit h) refl
line_told len false h = rw (trimmed len (omega (arith, h)), length_back len (omega (arith, h)), le-leb len reply_limit h) refl

line_code : (len : ℕ) (last : Bool) → 400 ≡ status_code (line_head len last)
unfolding line_head
line_code len last = refl

-- ---- how long it is

line_short : (len : ℕ) (last : Bool) → len < 2 ^ 64 → length (reply_head_text 400 Plain len last) ≤ head_limit
unfolding last_lines
line_short len last small = subst (λ (text : List ℕ). length text ≤ head_limit) (sym (line_lined len last)) (by_last last)
  where
    few : length (decimal len) ≤ 20
    few = length-decimal-le 20 len (omega arith) (omega (arith, small)) small

    by_last : (b : Bool)
        → length (flat_map ended (codes "HTTP/1.1 400 Bad Request" ∷ codes "Content-Type: text/plain" ∷ (codes "Content-Length: " ++ decimal len) ∷ last_lines b) ++ codes "\r\n") ≤ head_limit
    by_last true = simp length-append (omega (arith, few))
    by_last false = simp length-append (omega (arith, few))

-- ---- the reply

pub line_read : (body : List ℕ) (last : Bool) → length body ≤ reply_limit
    → IsReply (record { head = reply_head_text 400 Plain (length body) last; body = body }) (400, body)
line_read body last h =
    let n : ℕ = length body in
    let small : length body < 2 ^ 64 = omega (arith, h) in
    let framed = line_framed n last small in
    let is : IsReplyHead (reply_head_text 400 Plain n last) (line_head n last) = ((line_is n last small, line_printed n last), line_few n last) in (
      record { lines = framed.0; framed = framed.1; short = line_short n last small; tells = (line_head n last, is, line_told n last h) },
      (line_head n last, is, line_code n last),
      refl,
    )

-- ---- lines of records with an error are short

digits_few : (k base : ℕ) (upper : Bool) (n : ℕ) (acc : List ℕ) → length (digits_onto k base upper n acc) ≤ k + length acc
digits_few zero base upper n acc = omega arith
digits_few (suc k) base upper n acc =
    cond_both (n / base == 0) (digit_glyph upper (n % base) ∷ acc) (digits_onto k base upper (n / base) (digit_glyph upper (n % base) ∷ acc)) (λ l. length l ≤ suc k + length acc) (λ _. omega arith)
    (λ _. omega (arith, digits_few k base upper (n / base) (digit_glyph upper (n % base) ∷ acc)))

decimal_short : (n : ℕ) → length (decimal n) ≤ 64
unfolding digits
decimal_short n = omega (arith, digits_few 64 10 false n [])

query_short : (error : QueryError) → length (query_text error) ≤ 128
query_short query.TooLong = omega arith
query_short (query.TooDeep place) = simp length-append (omega (arith, decimal_short place))
query_short (query.At place cause.End) = simp length-append (omega (arith, decimal_short place))
query_short (query.At place cause.Byte) = simp length-append (omega (arith, decimal_short place))
query_short query.Memory = omega arith

reason_short : (why : RecordWhy) → length (cell_reason why) ≤ 128
reason_short reason.Op = omega arith
reason_short reason.Kind = omega arith
reason_short reason.Number = omega arith
reason_short reason.Range = omega arith
reason_short reason.Text = omega arith
reason_short reason.Extra = omega arith
reason_short reason.Missing = omega arith
reason_short (reason.Query error) = query_short error

pub record_line_short : (error : RecordError) → length (records_line error) ≤ reply_limit
record_line_short (records.Header column) = simp length-append (omega (arith, decimal_short column))
record_line_short (records.Field row column why) = simp length-append (omega (arith, decimal_short row, decimal_short column, reason_short why))
record_line_short (records.Length row) = simp length-append (omega (arith, decimal_short row))
record_line_short (records.TooMany row) = simp length-append (omega (arith, decimal_short row))
record_line_short records.Memory = omega arith
