-- It is decided what bytes begin with: a message, a refusal, or a part of a message; and so bytes split into messages
-- and a rest.
use Rattle.std.proofs.Common.{◌≡◌, ℕ, zero, suc, ◌<◌, ◌≤◌, ◌⊎◌, List, [], ◌∷◌, ◌++◌, length, take, drop, Bool, true, false, nat_le, if◌then◌else◌, Option, Some, None, Result, Ok, Err, codes, refl, sym, ap, ◌∙◌, subst, inl, inr, arith, append_assoc, append-nil, length-append}
use Rattle.std.specs.List.{flat_map}
use Rattle.std.proofs.lemmas.Bool.{cases_lt}
use Rattle.std.proofs.lemmas.List.{take-append-drop, length-take-le, length-take, take_all}
use Rattle.std.proofs.lemmas.List.Elements.{All-cons, All-nil}
use Rattle.httparse.specs.Grammar.{RequestHead, ResponseHead}
use Rattle.http_heads.specs.declared.gathering.Phase.TheVariants.{Frame, Body}
use Rattle.http_heads.specs.declared.kind.Kind.{Kind}
use Rattle.http_heads.specs.declared.kind.Kind.TheVariants.{Request, Reply}
use Rattle.http_heads.specs.declared.refusal.HeadError.{HeadError}
use Rattle.http_heads.specs.declared.refusal.HeadError.TheVariants.{Head, Length, BodyTooLarge, HeadTooLarge}
use Rattle.http_heads.specs.declared.scanning.Scan.{Scan}
use Rattle.http_heads.specs.Fields.{Pairs, body_length, fields_of, is_there, told_length, values, within_limit}
use Rattle.http_heads.specs.Frames.{IsFramed}
use Rattle.http_heads.specs.Heads.{IsHead, IsReplyHead, Tells, reply_tells}
use Rattle.http_heads.specs.Limits.{body_limit, head_limit, line_limit}
use Rattle.http_heads.specs.Messages.{HasHead, HasNoMessage, IsMessage, Message, Refuses, SplitsAs, print_message}
use Rattle.http_heads.specs.Scanning.{after, after_byte, start}
use Rattle.http_heads.proofs.Frames.{framed_end, framed_ends, no_frame}
use Rattle.http_heads.proofs.HeadsDecided.{head_decides, reply_head_decides}
use Rattle.http_heads.proofs.Messages.{open_goes, open_none, refused_none}
use Rattle.http_heads.proofs.Scans.{after_more}

-- ---- frames

-- the bytes begin with a framed head
record FrameAt (bytes : List ℕ) : Type 0 where
  front : List ℕ
  rest : List ℕ
  lines : ℕ
  split : bytes ≡ front ++ rest
  framed : IsFramed front lines

-- a framed head, or a scan that does not end
seek : (seen bytes : List ℕ) (s : Scan) → after start seen ≡ Some s → FrameAt (seen ++ bytes) ⊎ ((t : Scan) × (after start (seen ++ bytes) ≡ Some t))
seek seen [] s e = inr (s, ap (after start) (append-nil seen) ∙ e)
seek seen (b ∷ bs) s e =
    at_byte (after_byte s b) refl
    (λ t h. subst (λ (whole : List ℕ). FrameAt whole ⊎ ((u : Scan) × (after start whole ≡ Some u))) (append_assoc seen (b ∷ []) bs)
    (seek (seen ++ b ∷ []) bs t (after_more start s seen b e ∙ h)))
  where
    at_byte : (o : Option Scan) → after_byte s b ≡ o
        → ((t : Scan) → after_byte s b ≡ Some t → FrameAt (seen ++ b ∷ bs) ⊎ ((u : Scan) × (after start (seen ++ b ∷ bs) ≡ Some u)))
        → FrameAt (seen ++ b ∷ bs) ⊎ ((u : Scan) × (after start (seen ++ b ∷ bs) ≡ Some u))
    at_byte None h further =
        inl (record {
          front = seen ++ b ∷ [];
          rest = bs;
          lines = s.full;
          split = sym (append_assoc seen (b ∷ []) bs);
          framed = framed_end seen s b e h;
        })
    at_byte (Some t) h further = further t h

sought : (bytes : List ℕ) → FrameAt bytes ⊎ ((t : Scan) × (after start bytes ≡ Some t))
sought bytes = seek [] bytes start refl

-- ---- the length after a framed head

-- a length is stated, or the head is refused
TellsSome : Kind → List ℕ → ℕ → Type 0
TellsSome kind front lines = ((n : ℕ) × Tells kind front lines (Ok n)) ⊎ ((e : HeadError) × Tells kind front lines (Err e))

within_errors : (o : Option ℕ) (e : HeadError) → within_limit o ≡ Err e → (e ≡ Length) ⊎ (e ≡ BodyTooLarge)
within_errors None e h = inl (let same : e ≡ Length = cc in same)
within_errors (Some n) e h = by_test (nat_le n body_limit) h
  where
    by_test : (t : Bool) → ◌≡◌ {A = Result ℕ HeadError} (if t then Ok n else Err BodyTooLarge) (Err e) → (e ≡ Length) ⊎ (e ≡ BodyTooLarge)
    by_test true k = absurd (cc)
    by_test false k = inr (let same : e ≡ BodyTooLarge = cc in same)

body_errors : (fields : Pairs) (e : HeadError) → body_length fields ≡ Err e → (e ≡ Length) ⊎ (e ≡ BodyTooLarge)
body_errors fields e h = by_test (is_there (values (codes "transfer-encoding") fields)) h
  where
    by_test : (t : Bool)
        → (if t then Err Length else within_limit (told_length (Some 0) (values (codes "content-length") fields))) ≡ Err e
        → (e ≡ Length) ⊎ (e ≡ BodyTooLarge)
    by_test true k = inl (let same : e ≡ Length = cc in same)
    by_test false k = within_errors (told_length (Some 0) (values (codes "content-length") fields)) e k

answered : (front : List ℕ) (lines : ℕ) (h : RequestHead) → lines ≤ line_limit → IsHead front h → (answer : Result ℕ HeadError)
    → body_length (fields_of h.fields) ≡ answer → TellsSome Request front lines
unfolding TellsSome
answered front lines h few is (Ok n) e = inl (n, (few, (h, is, e)))
answered front lines h few is (Err f) e = elim (body_errors (fields_of h.fields) f e) [
  | inl len ↦ inr (Length, inr (few, (h, is, e ∙ ap (λ (x : HeadError). Err x) len)))
  | inr large ↦ inr (BodyTooLarge, inr (few, (h, is, e ∙ ap (λ (x : HeadError). Err x) large)))
]

replied : (front : List ℕ) (lines : ℕ) (h : ResponseHead) → IsReplyHead front h → (o : Option ℕ) → reply_tells h ≡ o → TellsSome Reply front lines
unfolding TellsSome
replied front lines h is None e = inr (Head, (refl, inr (h, is, e)))
replied front lines h is (Some n) e = inl (n, (h, is, e))

tells_some : (kind : Kind) (front : List ℕ) (lines : ℕ) → TellsSome kind front lines
unfolding TellsSome
tells_some Request front lines = elim (cases_lt line_limit lines) [
  | inl many ↦ inr (HeadTooLarge, inl (many, refl))
  | inr few ↦ elim (head_decides front) [
    | inl (h, is) ↦ answered front lines h few is (body_length (fields_of h.fields)) refl
    | inr none ↦ inr (Head, inr (few, none))
  ]
]
tells_some Reply front lines = elim (reply_head_decides front) [
  | inl (h, is) ↦ replied front lines h is (reply_tells h) refl
  | inr none ↦ inr (Head, (refl, inl none))
]

-- ---- prefixes

-- the bytes begin with a message
record MessageAt (kind : Kind) (bytes : List ℕ) : Type 0 where
  message : Message
  more : List ℕ
  whole : IsMessage kind message
  split : bytes ≡ print_message message ++ more

-- the bytes begin with no message, and nothing is refused
pub record Waits (kind : Kind) (bytes : List ℕ) : Type 0 where
  pub none : HasNoMessage kind bytes
  pub goes : (e : HeadError) → Refuses kind bytes e → ⊥

AtFront : Kind → List ℕ → Type 0
AtFront kind bytes = MessageAt kind bytes ⊎ (((e : HeadError) × Refuses kind bytes e) ⊎ Waits kind bytes)

open_waits : (kind : Kind) (m : Message) (bytes : List ℕ) → bytes ≡ print_message m → (told : ℕ) → HasHead kind m.head told → length m.body < told → Waits kind bytes
open_waits kind m bytes is told h short =
    subst (Waits kind) (sym is)
    (record { none = open_none kind m (Body told) (h, short) refl; goes = λ e. open_goes kind m (Body told) e (h, short) refl })

scan_waits : (kind : Kind) (bytes : List ℕ) (t : Scan) → after start bytes ≡ Some t → length bytes < head_limit → Waits kind bytes
scan_waits kind bytes t goes short =
    let m : Message = record { head = bytes; body = [] } in
    subst (Waits kind) (append-nil bytes)
    (record { none = open_none kind m (Frame t) (goes, short, refl) refl; goes = λ e. open_goes kind m (Frame t) e (goes, short, refl) refl })

-- after a head that states a length
behind_head : (kind : Kind) (bytes front rest : List ℕ) (n : ℕ) → bytes ≡ front ++ rest → HasHead kind front n → AtFront kind bytes
unfolding AtFront
behind_head kind bytes front rest n split h = elim (cases_lt (length rest) n) [
  | inl short ↦ inr (inr (open_waits kind (record { head = front; body = rest }) bytes split n h short))
  | inr enough ↦
      inl (record {
        message = record { head = front; body = take n rest };
        more = drop n rest;
        whole = subst (HasHead kind front) (sym (length-take-le n rest enough)) h;
        split = split ∙ ap (λ (b : List ℕ). front ++ b) (sym (take-append-drop n rest)) ∙ sym (append_assoc front (take n rest) (drop n rest));
      })
]

-- at a framed head
at_frame : (kind : Kind) (bytes front rest : List ℕ) (lines : ℕ) → bytes ≡ front ++ rest → IsFramed front lines → length front ≤ head_limit
    → TellsSome kind front lines → AtFront kind bytes
unfolding AtFront TellsSome
at_frame kind bytes front rest lines split framed short (inl (n, tells)) =
    behind_head kind bytes front rest n split (record { lines = lines; framed = framed; short = short; tells = tells })
at_frame kind bytes front rest lines split framed short (inr (e, tells)) =
    inr (inl (e, record { front = front; more = rest; split = split; refused = inl (lines, framed, short, tells) }))

-- the first bytes have no end of a head
at_scan : (kind : Kind) (bytes : List ℕ) (t : Scan) → after start (take head_limit bytes) ≡ Some t → AtFront kind bytes
unfolding AtFront
at_scan kind bytes t goes = elim (cases_lt (length bytes) head_limit) [
  | inl short ↦
      (let all : take head_limit bytes ≡ bytes = take_all head_limit bytes (omega arith) in
      inr (inr (scan_waits kind bytes t (ap (after start) (sym all) ∙ goes) short)))
  | inr enough ↦
      inr (inl (
        HeadTooLarge,
        record {
          front = take head_limit bytes;
          more = drop head_limit bytes;
          split = sym (take-append-drop head_limit bytes);
          refused = inr (refl, length-take-le head_limit bytes enough, no_frame (take head_limit bytes) t goes);
        },
      ))
]

at_front : (kind : Kind) (bytes : List ℕ) → AtFront kind bytes
unfolding AtFront
at_front kind bytes = elim (sought (take head_limit bytes)) [
  | inl f ↦
      (let short : length f.front ≤ head_limit =
      omega (arith, ap length f.split, length-append f.front f.rest, length-take head_limit bytes) in
      at_frame kind bytes f.front (f.rest ++ drop head_limit bytes) f.lines
      (sym (take-append-drop head_limit bytes) ∙ ap (λ (b : List ℕ). b ++ drop head_limit bytes) f.split ∙ append_assoc f.front f.rest (drop head_limit bytes))
      f.framed short (tells_some kind f.front f.lines))
  | inr (t, goes) ↦ at_scan kind bytes t goes
]

-- ---- bytes split into messages

-- bytes split into messages and a rest, which is refused or not
pub record Cut (kind : Kind) (bytes : List ℕ) : Type 0 where
  pub messages : List Message
  pub rest : List ℕ
  pub splits : SplitsAs kind bytes messages rest
  pub fault : ((e : HeadError) × Refuses kind rest e) ⊎ ((e : HeadError) → Refuses kind rest e → ⊥)

head_some : (kind : Kind) (head : List ℕ) (n : ℕ) → HasHead kind head n → 0 < length head
head_some kind head n h =
    let ends = framed_ends head h.lines h.framed in
    omega (arith, ap length ends.spelled, length-append ends.front (ends.byte ∷ []))

nothing_cut : (kind : Kind) (bytes : List ℕ) → HasNoMessage kind bytes → ((e : HeadError) × Refuses kind bytes e) ⊎ ((e : HeadError) → Refuses kind bytes e → ⊥) → Cut kind bytes
nothing_cut kind bytes none fault =
    record { messages = []; rest = bytes; splits = record { whole = All-nil (IsMessage kind); split = refl; last = none }; fault = fault }

onto_cut : (kind : Kind) (bytes : List ℕ) (m : Message) (more : List ℕ) → IsMessage kind m → bytes ≡ print_message m ++ more → Cut kind more → Cut kind bytes
onto_cut kind bytes m more whole split c = record {
  messages = m ∷ c.messages;
  rest = c.rest;
  splits = record {
    whole = All-cons (IsMessage kind) m c.messages whole c.splits.whole;
    split =
        split ∙ ap (λ (b : List ℕ). print_message m ++ b) c.splits.split
        ∙ sym (append_assoc (print_message m) (flat_map print_message c.messages) c.rest);
    last = c.splits.last;
  };
  fault = c.fault;
}

cut_within : (n : ℕ) (kind : Kind) (bytes : List ℕ) → length bytes < n → Cut kind bytes
unfolding AtFront
cut_within zero kind bytes short = absurd (omega arith)
cut_within (suc n) kind bytes short = elim (at_front kind bytes) [
  | inl f ↦
      (let some : 0 < length f.message.head = head_some kind f.message.head (length f.message.body) f.whole in
      let less : length f.more < n =
      omega (arith, ap length f.split, length-append (print_message f.message) f.more, length-append f.message.head f.message.body) in
      onto_cut kind bytes f.message f.more f.whole f.split (cut_within n kind f.more less))
  | inr (inl (e, refused)) ↦ nothing_cut kind bytes (refused_none kind bytes e refused) (inl (e, refused))
  | inr (inr waits) ↦ nothing_cut kind bytes waits.none (inr waits.goes)
]

-- all bytes can be split
pub cut_for : (kind : Kind) (bytes : List ℕ) → Cut kind bytes
cut_for kind bytes = cut_within (suc (length bytes)) kind bytes (omega arith)
