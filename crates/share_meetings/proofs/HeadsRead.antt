-- The head that a share writes for a success is one of the grammar, framed and short, and says what was written.
use Rattle.std.proofs.Common.{◌≡◌, ◌≤◌, ◌<◌, ◌^◌, ◌∷◌, ◌++◌, [], ℕ, List, Bool, true, false, Some, refl, sym, ap, ◌∙◌, subst, length, All, append_assoc, append-nil, length-append, arith}
use Rattle.std.specs.Prelude.{codes, decimal}
use Rattle.std.specs.Fmt.{digits}
use Rattle.std.specs.Char.{is_ascii_digit}
use Rattle.std.specs.List.{flat_map}
use Rattle.std.proofs.lemmas.Bool.{le-leb}
use Rattle.std.proofs.lemmas.Fmt.{length-decimal-le}
use Rattle.std.proofs.lemmas.List.Elements.{All-nil, All-cons, All-weaker}
use Rattle.httparse.specs.Grammar.{Field, IsField, IsResponseHead, ResponseHead, crlf, is_token_byte, is_value_byte, print_field, print_response, status_code}
use Rattle.http_heads.specs.Frames.{IsFramed}
use Rattle.http_heads.specs.Heads.{IsReplyHead, reply_tells}
use Rattle.http_heads.specs.Limits.{head_limit, reply_limit}
use Rattle.http_client.specs.Replies.{IsReply}
use Rattle.http_client.proofs.HeadsBack.{AreLines, digit_byte, field_is, framed_lines, length_back, passes, sent_field, shown_digits, trimmed}
use Rattle.http_client.proofs.Numerals.{IsDigit, decimal_digits}
use Rattle.http_front.specs.ReplyHeads.{allow_field, ended, last_field, length_field, reply_head_text, status_line, type_field}
use Rattle.share_asks.specs.declared.form.BodyForm.TheVariants.{Dmap, NoBody}

-- ---- the heads as trees

last_fields : Bool → List Field
last_fields true = sent_field (codes "Connection") (codes "close") ∷ []
last_fields false = []

tag_fields : ℕ → Bool → List Field
tag_fields len last =
    sent_field (codes "Content-Type") (codes "application/x-dmap-tagged") ∷ sent_field (codes "Content-Length") (decimal len) ∷ last_fields last

-- of a reply with a tag, and of one without content
tag_head : ℕ → Bool → ResponseHead
tag_head len last =
    record { blank = []; minor = 1; digits = codes "200"; reason = Some (codes "OK"); line_end = crlf; fields = tag_fields len last; last = crlf }

empty_head : Bool → ResponseHead
empty_head last =
    record { blank = []; minor = 1; digits = codes "204"; reason = Some (codes "No Content"); line_end = crlf; fields = last_fields last; last = crlf }

-- the parts of a head's text, and of fields, one after the other
parts : (s t l a e c : List ℕ) → (s ++ t ++ l ++ a ++ e) ++ c ≡ s ++ (t ++ (l ++ (a ++ (e ++ c))))
parts s t l a e c = simp append_assoc

fields : (p q r c : List ℕ) → (p ++ (q ++ r)) ++ c ≡ p ++ (q ++ (r ++ c))
fields p q r c = simp append_assoc

lines : (p q r l c : List ℕ) → (p ++ (q ++ (r ++ l))) ++ c ≡ p ++ (q ++ (r ++ (l ++ c)))
lines p q r l c = simp append_assoc

tag_parts : (len : ℕ) (last : Bool)
    → reply_head_text 200 Dmap len last
    ≡ status_line 200 ++ (type_field Dmap ++ (length_field 200 len ++ (allow_field Dmap ++ (last_field last ++ codes "\r\n"))))
unfolding reply_head_text
tag_parts len last = parts (status_line 200) (type_field Dmap) (length_field 200 len) (allow_field Dmap) (last_field last) (codes "\r\n")

tag_section : (len : ℕ) (last : Bool)
    → flat_map print_field (tag_fields len last) ++ codes "\r\n"
    ≡ print_field (sent_field (codes "Content-Type") (codes "application/x-dmap-tagged"))
    ++ (print_field (sent_field (codes "Content-Length") (decimal len)) ++ (flat_map print_field (last_fields last) ++ codes "\r\n"))
unfolding tag_fields
tag_section len last =
    fields (print_field (sent_field (codes "Content-Type") (codes "application/x-dmap-tagged"))) (print_field (sent_field (codes "Content-Length") (decimal len)))
    (flat_map print_field (last_fields last)) (codes "\r\n")

tag_printed : (len : ℕ) (last : Bool) → reply_head_text 200 Dmap len last ≡ print_response (tag_head len last) ++ []
unfolding tag_head last_fields sent_field print_response digits
tag_printed len true =
    tag_parts len true ∙ sym (ap (λ (text : List ℕ). codes "HTTP/1.1 200 OK\r\n" ++ text) (tag_section len true)) ∙ sym (append-nil (print_response (tag_head len true)))
tag_printed len false =
    tag_parts len false ∙ sym (ap (λ (text : List ℕ). codes "HTTP/1.1 200 OK\r\n" ++ text) (tag_section len false)) ∙ sym (append-nil (print_response (tag_head len false)))

empty_printed : (last : Bool) → reply_head_text 204 NoBody 0 last ≡ print_response (empty_head last) ++ []
unfolding empty_head last_fields sent_field print_response reply_head_text digits
empty_printed true = refl
empty_printed false = refl

-- ---- their lines

last_lines : Bool → List (List ℕ)
last_lines true = codes "Connection: close" ∷ []
last_lines false = []

are_last : (last : Bool) → AreLines (last_lines last)
unfolding last_lines
are_last true = (refl, omega arith, tt)
are_last false = tt

tag_lined : (len : ℕ) (last : Bool)
    → reply_head_text 200 Dmap len last
    ≡ flat_map ended (codes "HTTP/1.1 200 OK" ∷ codes "Content-Type: application/x-dmap-tagged" ∷ (codes "Content-Length: " ++ decimal len) ∷ last_lines last) ++ codes "\r\n"
unfolding last_lines digits
tag_lined len true =
    tag_parts len true ∙ sym (lines (ended (codes "HTTP/1.1 200 OK")) (ended (codes "Content-Type: application/x-dmap-tagged")) (ended (codes "Content-Length: " ++ decimal len))
    (flat_map ended (last_lines true)) (codes "\r\n"))
tag_lined len false =
    tag_parts len false ∙ sym (lines (ended (codes "HTTP/1.1 200 OK")) (ended (codes "Content-Type: application/x-dmap-tagged")) (ended (codes "Content-Length: " ++ decimal len))
    (flat_map ended (last_lines false)) (codes "\r\n"))

empty_lined : (last : Bool) → reply_head_text 204 NoBody 0 last ≡ flat_map ended (codes "HTTP/1.1 204 No Content" ∷ last_lines last) ++ codes "\r\n"
unfolding last_lines reply_head_text digits
empty_lined true = refl
empty_lined false = refl

tag_framed : (len : ℕ) (last : Bool) → len < 2 ^ 64 → (lines : ℕ) × IsFramed (reply_head_text 200 Dmap len last) lines
tag_framed len last small = (
  length (codes "HTTP/1.1 200 OK" ∷ codes "Content-Type: application/x-dmap-tagged" ∷ (codes "Content-Length: " ++ decimal len) ∷ last_lines last),
  subst (λ (text : List ℕ). IsFramed text (length (codes "HTTP/1.1 200 OK" ∷ codes "Content-Type: application/x-dmap-tagged" ∷ (codes "Content-Length: " ++ decimal len) ∷ last_lines last))) (sym (tag_lined len last))
      (framed_lines (codes "HTTP/1.1 200 OK") (codes "Content-Type: application/x-dmap-tagged" ∷ (codes "Content-Length: " ++ decimal len) ∷ last_lines last)
      (refl, omega arith, (refl, omega arith, (shown_digits (decimal len) (decimal_digits len small), omega arith, are_last last)))),
)

empty_framed : (last : Bool) → (lines : ℕ) × IsFramed (reply_head_text 204 NoBody 0 last) lines
empty_framed last = (
  length (codes "HTTP/1.1 204 No Content" ∷ last_lines last),
  subst (λ (text : List ℕ). IsFramed text (length (codes "HTTP/1.1 204 No Content" ∷ last_lines last))) (sym (empty_lined last))
      (framed_lines (codes "HTTP/1.1 204 No Content") (last_lines last) (refl, omega arith, are_last last)),
)

-- ---- they are heads of the grammar

last_is : (last : Bool) → All IsField (last_fields last)
unfolding last_fields is_token_byte
last_is true =
    All-cons IsField (sent_field (codes "Connection") (codes "close")) []
    (field_is (codes "Connection") (codes "close") (omega arith) refl (passes is_value_byte (codes "close") refl)) (All-nil IsField)
last_is false = All-nil IsField

tag_fields_are : (len : ℕ) (last : Bool) → len < 2 ^ 64 → All IsField (tag_fields len last)
unfolding tag_fields is_token_byte
tag_fields_are len last small =
    All-cons IsField (sent_field (codes "Content-Type") (codes "application/x-dmap-tagged")) (sent_field (codes "Content-Length") (decimal len) ∷ last_fields last)
    (field_is (codes "Content-Type") (codes "application/x-dmap-tagged") (omega arith) refl (passes is_value_byte (codes "application/x-dmap-tagged") refl))
    (All-cons IsField (sent_field (codes "Content-Length") (decimal len)) (last_fields last)
    (field_is (codes "Content-Length") (decimal len) (omega arith) refl
    (All-weaker IsDigit (λ b. is_value_byte b ≡ true) digit_byte (decimal len) (decimal_digits len small))) (last_is last))

tag_is : (len : ℕ) (last : Bool) → len < 2 ^ 64 → IsResponseHead (tag_head len last)
unfolding tag_head
tag_is len last small = record {
  minor = omega arith;
  digits = (refl, passes is_ascii_digit (codes "200") refl);
  reason = passes is_value_byte (codes "OK") refl;
  fields = tag_fields_are len last small;
}

empty_is : (last : Bool) → IsResponseHead (empty_head last)
unfolding empty_head
empty_is last = record {
  minor = omega arith;
  digits = (refl, passes is_ascii_digit (codes "204") refl);
  reason = passes is_value_byte (codes "No Content") refl;
  fields = last_is last;
}

tag_few : (len : ℕ) (last : Bool) → length (tag_head len last).fields ≤ 64
unfolding tag_head tag_fields last_fields
tag_few len true = omega arith
tag_few len false = omega arith

empty_few : (last : Bool) → length (empty_head last).fields ≤ 64
unfolding empty_head last_fields
empty_few true = omega arith
empty_few false = omega arith

-- ---- what they say

tag_told : (len : ℕ) (last : Bool) → len ≤ reply_limit → reply_tells (tag_head len last) ≡ Some len
unfolding tag_head tag_fields last_fields sent_field
tag_told len true h = rw (trimmed len (omega (arith, h)), length_back len (omega (arith, h)), le-leb len reply_limit h) refl
tag_told len false h = rw (trimmed len (omega (arith, h)), length_back len (omega (arith, h)), le-leb len reply_limit h) refl

empty_told : (last : Bool) → reply_tells (empty_head last) ≡ Some 0
unfolding empty_head last_fields sent_field
empty_told true = refl
empty_told false = refl

tag_code : (len : ℕ) (last : Bool) → 200 ≡ status_code (tag_head len last)
unfolding tag_head
tag_code len last = refl

empty_code : (last : Bool) → 204 ≡ status_code (empty_head last)
unfolding empty_head
empty_code last = refl

-- ---- how long they are

tag_short : (len : ℕ) (last : Bool) → len < 2 ^ 64 → length (reply_head_text 200 Dmap len last) ≤ head_limit
unfolding last_lines
tag_short len last small = subst (λ (text : List ℕ). length text ≤ head_limit) (sym (tag_lined len last)) (by_last last)
  where
    few : length (decimal len) ≤ 20
    few = length-decimal-le 20 len (omega arith) (omega (arith, small)) small

    by_last : (b : Bool)
        → length (flat_map ended (codes "HTTP/1.1 200 OK" ∷ codes "Content-Type: application/x-dmap-tagged" ∷ (codes "Content-Length: " ++ decimal len) ∷ last_lines b) ++ codes "\r\n") ≤ head_limit
    by_last true = simp length-append (omega (arith, few))
    by_last false = simp length-append (omega (arith, few))

empty_short : (last : Bool) → length (reply_head_text 204 NoBody 0 last) ≤ head_limit
unfolding last_lines
empty_short last = subst (λ (text : List ℕ). length text ≤ head_limit) (sym (empty_lined last)) (by_last last)
  where
    by_last : (b : Bool) → length (flat_map ended (codes "HTTP/1.1 204 No Content" ∷ last_lines b) ++ codes "\r\n") ≤ head_limit
    by_last true = omega arith
    by_last false = omega arith

-- ---- the replies

pub tag_read : (body : List ℕ) (last : Bool) → length body ≤ reply_limit
    → IsReply (record { head = reply_head_text 200 Dmap (length body) last; body = body }) (200, body)
tag_read body last h =
    let n : ℕ = length body in
    let small : length body < 2 ^ 64 = omega (arith, h) in
    let framed = tag_framed n last small in
    let is : IsReplyHead (reply_head_text 200 Dmap n last) (tag_head n last) = ((tag_is n last small, tag_printed n last), tag_few n last) in (
      record { lines = framed.0; framed = framed.1; short = tag_short n last small; tells = (tag_head n last, is, tag_told n last h) },
      (tag_head n last, is, tag_code n last),
      refl,
    )

pub empty_read : (last : Bool) → IsReply (record { head = reply_head_text 204 NoBody 0 last; body = [] }) (204, [])
empty_read last =
    let framed = empty_framed last in
    let is : IsReplyHead (reply_head_text 204 NoBody 0 last) (empty_head last) = ((empty_is last, empty_printed last), empty_few last) in (
      record { lines = framed.0; framed = framed.1; short = empty_short last; tells = (empty_head last, is, empty_told last) },
      (empty_head last, is, empty_code last),
      refl,
    )
