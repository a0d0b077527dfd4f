-- Whatever message bytes begin with, its status is that of the head that was written there.
use Rattle.std.proofs.Common.{◌≡◌, ℕ, ◌+◌, ◌==◌, List, [], ◌∷◌, ◌++◌, Bool, true, false, cond, is_some, length, drop, Option, Some, None, refl, sym, ap, ◌∙◌, subst, append_assoc, arith}
use Rattle.std.specs.Prelude.{codes, decimal, unwrap_or}
use Rattle.std.specs.Fmt.{digits}
use Rattle.std.specs.Str.Parse.{digits_value}
use Rattle.std.proofs.lemmas.Bool.{eqb-true}
use Rattle.httparse.specs.Grammar.{LineEnd, ResponseHead, crlf, lf, print_blank, print_end, print_reason, print_response, print_section, print_version, status_code}
use Rattle.http_front.specs.ReplyHeads.{HasReason, allow_field, last_field, length_field, reason_of, reply_head_text, status_line, type_field}
use Rattle.http_heads.specs.Messages.{Message, print_message}
use Rattle.http_heads.proofs.Messages.{same_fronts}
use Rattle.share_asks.specs.declared.form.BodyForm.{BodyForm}
use Rattle.http_client.specs.Replies.{IsReply, Reply}

-- ---- statuses that have a reason

-- it is written in three digits, which read back
record HasDigits (status : ℕ) : Type 0 where
  three : length (decimal status) ≡ 3
  value : digits_value 10 (decimal status) ≡ status

one_status : (n status : ℕ) (text : List ℕ) (others : Option (List ℕ)) → HasDigits n → (is_some others ≡ true → HasDigits status) → (b : Bool) → (status == n) ≡ b
    → is_some (cond b (Some text) others) ≡ true → HasDigits status
one_status n status text others has other true is some = subst HasDigits (sym (eqb-true status n is)) has
one_status n status text others has other false is some = other some

has_digits : (status : ℕ) → HasReason status → HasDigits status
unfolding digits
has_digits status some =
    by 200 (codes "OK") _ (record { three = refl; value = refl }) (λ h200.
    by 204 (codes "No Content") _ (record { three = refl; value = refl }) (λ h204.
    by 400 (codes "Bad Request") _ (record { three = refl; value = refl }) (λ h400.
    by 403 (codes "Forbidden") _ (record { three = refl; value = refl }) (λ h403.
    by 404 (codes "Not Found") _ (record { three = refl; value = refl }) (λ h404.
    by 405 (codes "Method Not Allowed") _ (record { three = refl; value = refl }) (λ h405.
    by 413 (codes "Content Too Large") _ (record { three = refl; value = refl }) (λ h413.
    by 431 (codes "Request Header Fields Too Large") _ (record { three = refl; value = refl }) (λ h431.
    by 500 (codes "Internal Server Error") _ (record { three = refl; value = refl }) (λ h500.
    by 503 (codes "Service Unavailable") _ (record { three = refl; value = refl }) (λ h503.
    by 507 (codes "Insufficient Storage") None (record { three = refl; value = refl }) (λ none. absurd (cc)) h503) h500) h431) h413) h405) h404) h403) h400) h204) h200) some
  where
    by : (n : ℕ) (text : List ℕ) (others : Option (List ℕ)) → HasDigits n → (is_some others ≡ true → HasDigits status)
        → is_some (cond (status == n) (Some text) others) ≡ true → HasDigits status
    by n text others has other some = one_status n status text others has other (status == n) refl some

-- ---- the parts of both texts, one after another

written : (p d s u c t l a e body others : List ℕ)
    → (((((p ++ d ++ s ++ u) ++ c) ++ t ++ l ++ a ++ e) ++ c) ++ body) ++ others ≡ p ++ (d ++ (s ++ (u ++ (c ++ (t ++ (l ++ (a ++ (e ++ (c ++ (body ++ others))))))))))
written p d s u c t l a e body others = simp append_assoc

read : (b v d r e s body more : List ℕ) → (((b ++ v ++ d ++ r ++ e ++ s) ++ []) ++ body) ++ more ≡ b ++ (v ++ (d ++ (r ++ (e ++ (s ++ (body ++ more))))))
read b v d r e s body more = simp append_assoc

first_byte : (b c : ℕ) (xs ys : List ℕ) → b ∷ xs ≡ c ∷ ys → b ≡ c
first_byte b c xs ys same = cc

-- no empty line precedes it
no_blank : (ends : List LineEnd) (xs ys : List ℕ) → print_blank ends ++ ys ≡ 72 ∷ xs → ys ≡ 72 ∷ xs
no_blank [] xs ys same = same
no_blank (crlf ∷ ends) xs ys same = absurd (omega (arith, first_byte 13 72 _ _ same))
no_blank (lf ∷ ends) xs ys same = absurd (omega (arith, first_byte 10 72 _ _ same))

-- ---- the status

pub text_status : (status : ℕ) (form : BodyForm) (len : ℕ) (last : Bool) (body others more : List ℕ) (m : Message) (answer : Reply) → HasReason status → IsReply m answer
    → (reply_head_text status form len last ++ body) ++ others ≡ print_message m ++ more → answer.0 ≡ status
unfolding reply_head_text print_response
text_status status form len last body others more m answer reason (is, (h, (head, few), code), b) same =
    let has = has_digits status reason in
    let behind = codes " " ++ (unwrap_or (reason_of status) [] ++ (codes "\r\n" ++ (type_field form ++ (length_field status len ++ (allow_field form
    ++ (last_field last ++ (codes "\r\n" ++ (body ++ others)))))))) in
    let after = print_reason h.reason ++ (print_end h.line_end ++ (print_section h.fields h.last ++ (m.body ++ more))) in
    let both : codes "HTTP/1.1 " ++ (decimal status ++ behind) ≡ print_blank h.blank ++ (print_version h.minor ++ ((32 ∷ h.digits) ++ after)) =
    sym (written (codes "HTTP/1.1 ") (decimal status) (codes " ") (unwrap_or (reason_of status) []) (codes "\r\n") (type_field form) (length_field status len) (allow_field form)
    (last_field last) body others) ∙ same ∙ ap (λ (text : List ℕ). (text ++ m.body) ++ more) head.1
    ∙ read (print_blank h.blank) (print_version h.minor) (32 ∷ h.digits) (print_reason h.reason) (print_end h.line_end) (print_section h.fields h.last) m.body more in
    let rest : decimal status ++ behind ≡ h.digits ++ after =
    ap (drop 9) (sym (no_blank h.blank (drop 1 (codes "HTTP/1.1 " ++ (decimal status ++ behind))) (print_version h.minor ++ ((32 ∷ h.digits) ++ after)) (sym both))) in
    let digits = same_fronts (decimal status) h.digits behind after (has.three ∙ sym head.0.digits.0) rest in
    code ∙ ap (digits_value 10) (sym digits.0) ∙ has.value
