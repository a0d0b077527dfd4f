-- A request that was written and a reply that was read are one exchange; and an exchange that stops.
use Rattle.std.proofs.Common.{◌≡◌, ℕ, ◌+◌, List, [], ◌∷◌, ◌++◌, length, take, Option, refl, sym, ap, ◌∙◌, inl, inr, subst, append_assoc, append-nil, length-append, arith}
use Rattle.std.proofs.lemmas.List.{take_all}
use Rattle.std.specs.Prelude.{Result, Ok, Err, IfErr}
use Rattle.std.specs.Io.KnownBytes.{Appends, Consumes, prepend_known}
use Rattle.std.proofs.KnownBytes.{Appends-nil, Appends-trans, Consumes-nil, Consumes-trans}
use Rattle.http_heads.specs.Messages.{print_message}
use Rattle.http_client.specs.Replies.{Reply}
use Rattle.mirror_client.specs.declared.refusal.FollowError.{FollowError}
use Rattle.mirror_client.specs.declared.refusal.FollowError.TheVariants.{Refused, BadReply, Ended, Listing, Codes, LinkFault, Memory}
use Rattle.mirror_client.specs.Exchanges.{AreAnswered, Exchange, Exchanged, Replied, Transcript, messages, requests}
use Rattle.mirror_client.specs.Points.{Point, point}
use Rattle.mirror_client.specs.Stopping.{NoReply, Stops, StopsShort}

pub exchanged : (request : List ℕ) (p mid q : Point) (answer : Reply) → Appends p.taken mid.taken request → mid.owed ≡ p.owed → mid.used ≡ p.used
    → Replied mid q answer → Exchanged request p q answer
exchanged request p mid q answer written owed used r =
    let bytes : List ℕ = print_message r.message in
    record {
      message = r.message;
      went =
          record {
            written =
                subst (λ (told : Option (List ℕ)). Appends p.taken told (request ++ [])) (sym r.taken)
                (subst (λ (all : List ℕ). Appends p.taken mid.taken all) (sym (append-nil request)) written);
            answered = (r.is, tt);
            read =
                subst (λ (all : List ℕ). Consumes p.owed q.owed all) (sym (append-nil bytes))
                (subst (λ (told : Option (List ℕ)). Consumes told q.owed bytes) owed r.read);
            counted =
                r.counted ∙ ap (λ (n : ℕ). n + length bytes) used ∙ ap (λ (all : List ℕ). p.used + length all) (sym (append-nil bytes));
          };
    }

cause_of : (taken : Option (List ℕ)) (mid : Point) (e : FollowError) → NoReply mid e → NoReply (record { taken = taken; owed = mid.owed; used = mid.used }) e
cause_of taken mid (Refused status) h = h
cause_of taken mid (BadReply at) h = h
cause_of taken mid (Ended at) h = h
cause_of taken mid (Listing error) h = h
cause_of taken mid (Codes error) h = h
cause_of taken mid LinkFault h = h
cause_of taken mid Memory h = h

same_cause : (p mid : Point) (e : FollowError) → mid.owed ≡ p.owed → mid.used ≡ p.used → NoReply mid e → NoReply p e
same_cause p mid e owed used h =
    subst (λ (n : ℕ). NoReply (record { taken = p.taken; owed = p.owed; used = n }) e) used
    (subst (λ (told : Option (List ℕ)). NoReply (record { taken = p.taken; owed = told; used = mid.used }) e) owed (cause_of p.taken mid e h))

-- all was written, and no reply was read
pub unanswered : (request : List ℕ) (p mid : Point) (taken : Option (List ℕ)) (e : FollowError) → Appends p.taken mid.taken request → mid.owed ≡ p.owed
    → mid.used ≡ p.used → taken ≡ mid.taken → NoReply mid e → StopsShort request p taken e
unanswered request p mid taken e written owed used same h = record {
  written = (
    length request,
    omega arith,
    subst (λ (told : Option (List ℕ)). Appends p.taken told (take (length request) request)) (sym same)
        (subst (λ (all : List ℕ). Appends p.taken mid.taken all) (sym (take_all (length request) request (omega arith))) written),
  );
  cause = same_cause p mid e owed used h;
}

-- nothing was written
pub unwritten : (request : List ℕ) (Unexpected : ℕ → Reply → FollowError → Type 0) (p : Point) → Stops request Unexpected p p.taken Memory
unwritten request Unexpected p = inl (record { written = (0, omega arith, Appends-nil p.taken); cause = tt })

-- an unexpected answer
pub unexpected_stops : (request : List ℕ) (Unexpected : ℕ → Reply → FollowError → Type 0) (p q : Point) (answer : Reply) (e : FollowError) → Exchanged request p q answer
    → Unexpected q.used answer e → Stops request Unexpected p q.taken e
unexpected_stops request Unexpected p q answer e x unexpected = inr (record {
  exchange = record { request = request; message = x.message; answer = answer };
  there = q;
  asked = refl;
  went = x.went;
  written = refl;
  unexpected = unexpected;
})

-- ---- several exchanges

pub went_nowhere : (p : Point) → Transcript p p []
went_nowhere p = record { written = Appends-nil p.taken; answered = tt; read = Consumes-nil p.owed; counted = omega arith }

requests_both : (xs ys : List Exchange) → requests (xs ++ ys) ≡ requests xs ++ requests ys
requests_both [] ys = refl
requests_both (x ∷ xs) ys = ap (λ (bytes : List ℕ). x.request ++ bytes) (requests_both xs ys) ∙ sym (append_assoc x.request (requests xs) (requests ys))

messages_both : (xs ys : List Exchange) → messages (xs ++ ys) ≡ messages xs ++ messages ys
messages_both [] ys = refl
messages_both (x ∷ xs) ys =
    ap (λ (bytes : List ℕ). print_message x.message ++ bytes) (messages_both xs ys) ∙ sym (append_assoc (print_message x.message) (messages xs) (messages ys))

answered_both : (xs ys : List Exchange) → AreAnswered xs → AreAnswered ys → AreAnswered (xs ++ ys)
answered_both [] ys h k = k
answered_both (x ∷ xs) ys h k = (h.0, answered_both xs ys h.1 k)

pub went_on : (p q r : Point) (xs ys : List Exchange) → Transcript p q xs → Transcript q r ys → Transcript p r (xs ++ ys)
went_on p q r xs ys h k = record {
  written =
      subst (λ (bytes : List ℕ). Appends p.taken r.taken bytes) (sym (requests_both xs ys))
      (Appends-trans p.taken q.taken r.taken (requests xs) (requests ys) h.written k.written);
  answered = answered_both xs ys h.answered k.answered;
  read =
      subst (λ (bytes : List ℕ). Consumes p.owed r.owed bytes) (sym (messages_both xs ys))
      (Consumes-trans p.owed q.owed r.owed (messages xs) (messages ys) h.read k.read);
  counted = omega (arith, h.counted, k.counted, ap length (messages_both xs ys), length-append (messages xs) (messages ys));
}

-- ---- the results of calls

pub exchange_err : (request : List ℕ) (taken0 taken1 taken2 left0 left1 : Option (List ℕ)) (unused0 : List ℕ) (used0 : ℕ) (result : Result Reply FollowError)
    → Appends taken0 taken1 request → left1 ≡ left0 → taken2 ≡ taken1 → IfErr result (λ e. NoReply (point taken1 left1 unused0 used0) e)
    → IfErr result (λ e. StopsShort request (point taken0 left0 unused0 used0) taken2 e)
exchange_err request taken0 taken1 taken2 left0 left1 unused0 used0 (Ok a) written same stays h = tt
exchange_err request taken0 taken1 taken2 left0 left1 unused0 used0 (Err e) written same stays h =
    unanswered request (point taken0 left0 unused0 used0) (point taken1 left1 unused0 used0) taken2 e written (ap (prepend_known unused0) same) refl stays h
