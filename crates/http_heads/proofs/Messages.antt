-- What bytes begin with: a message, a refusal, or neither, and each of them is unique.
use Rattle.std.proofs.Common.{◌≡◌, ◌≢◌, ℕ, zero, suc, ◌+◌, ◌<◌, ◌≤◌, List, [], ◌∷◌, ◌++◌, length, true, false, Some, None, Result, Ok, Err, All, refl, sym, ap, ap₂, ◌∙◌, subst, inl, inr, arith, append_assoc, append-nil, length-append}
use Rattle.std.proofs.lemmas.List.Elements.{All-head, All-tail}
use Rattle.std.specs.List.{flat_map}
use Rattle.httparse.specs.Grammar.{RequestHead, ResponseHead}
use Rattle.httparse.proofs.GrammarLemmas.{request_unique, response_unique}
use Rattle.http_heads.specs.declared.gathering.Phase.{Phase}
use Rattle.http_heads.specs.declared.gathering.Phase.TheVariants.{Frame, Body, Whole}
use Rattle.http_heads.specs.declared.kind.Kind.{Kind}
use Rattle.http_heads.specs.declared.kind.Kind.TheVariants.{Request, Reply}
use Rattle.http_heads.specs.declared.refusal.HeadError.{HeadError}
use Rattle.http_heads.specs.declared.refusal.HeadError.TheVariants.{Head, Length, BodyTooLarge, HeadTooLarge, Memory}
use Rattle.http_heads.specs.declared.scanning.Scan.{Scan}
use Rattle.http_heads.specs.Fields.{fields_of, body_length}
use Rattle.http_heads.specs.Frames.{HasNoFrame}
use Rattle.http_heads.specs.Gathering.{Gathered, kept, is_whole, Stands, IsAt, IsIdle, TakesSome}
use Rattle.http_heads.specs.Heads.{IsHead, IsReplyHead, Answers, RefusesRead, Tells, reply_tells}
use Rattle.http_heads.specs.Limits.{head_limit, line_limit}
use Rattle.http_heads.specs.Messages.{Message, print_message, HasHead, IsMessage, HasNoMessage, IsRefused, Refuses, SplitsAs}
use Rattle.http_heads.proofs.Frames.{framed_once, no_frame}

-- ---- a framed head has one reading

pub one_head : (bytes : List ℕ) (h k : RequestHead) → IsHead bytes h → IsHead bytes k → h ≡ k
one_head bytes h k x y = (request_unique bytes h k [] [] x.0 y.0).0

pub one_reply_head : (bytes : List ℕ) (h k : ResponseHead) → IsReplyHead bytes h → IsReplyHead bytes k → h ≡ k
one_reply_head bytes h k x y = (response_unique bytes h k [] [] x.0 y.0).0

one_answer : (front : List ℕ) (a b : Result ℕ HeadError) → Answers front a → Answers front b → a ≡ b
one_answer front a b (h, x, p) (k, y, q) = sym p ∙ ap (λ (head : RequestHead). body_length (fields_of head.fields)) (one_head front h k x y) ∙ q

pub one_told : (kind : Kind) (front : List ℕ) (lines m n : ℕ) → Tells kind front lines (Ok m) → Tells kind front lines (Ok n) → m ≡ n
one_told Request front lines m n x y =
    let same : ◌≡◌ {A = Result ℕ HeadError} (Ok m) (Ok n) = one_answer front (Ok m) (Ok n) x.1 y.1 in cc
one_told Reply front lines m n (h, x, p) (k, y, q) =
    let same : Some m ≡ Some n = sym p ∙ ap reply_tells (one_reply_head front h k x y) ∙ q in cc

-- a head that is read is not refused
read_not_refused : (front : List ℕ) (n : ℕ) (e : HeadError) → Answers front (Ok n) → RefusesRead front e → ⊥
read_not_refused front n Head (h, x, p) none = none h x
read_not_refused front n Length x y = let same : ◌≡◌ {A = Result ℕ HeadError} (Ok n) (Err Length) = one_answer front _ _ x y in absurd (cc)
read_not_refused front n BodyTooLarge x y = let same : ◌≡◌ {A = Result ℕ HeadError} (Ok n) (Err BodyTooLarge) = one_answer front _ _ x y in absurd (cc)
read_not_refused front n HeadTooLarge x y = y
read_not_refused front n Memory x y = y

pub not_told : (kind : Kind) (front : List ℕ) (lines n : ℕ) (e : HeadError) → Tells kind front lines (Ok n) → Tells kind front lines (Err e) → ⊥
not_told Request front lines n e x (inl (many, is)) = let few : lines ≤ line_limit = x.0 in absurd (omega arith)
not_told Request front lines n e x (inr (few, y)) = read_not_refused front n e x.1 y
not_told Reply front lines n e (h, x, p) (is, inl none) = none h x
not_told Reply front lines n e (h, x, p) (is, inr (k, y, q)) =
    let same : Some n ≡ None = sym p ∙ ap reply_tells (one_reply_head front h k x y) ∙ q in absurd (cc)

read_refusals : (front : List ℕ) (d e : HeadError) → RefusesRead front d → RefusesRead front e → d ≡ e
read_refusals front Head Head x y = refl
read_refusals front Head Length x (h, y, p) = absurd (x h y)
read_refusals front Head BodyTooLarge x (h, y, p) = absurd (x h y)
read_refusals front Length Head (h, x, p) y = absurd (y h x)
read_refusals front Length Length x y = refl
read_refusals front Length BodyTooLarge x y =
    let same : ◌≡◌ {A = Result ℕ HeadError} (Err Length) (Err BodyTooLarge) = one_answer front _ _ x y in cc
read_refusals front BodyTooLarge Head (h, x, p) y = absurd (y h x)
read_refusals front BodyTooLarge Length x y =
    let same : ◌≡◌ {A = Result ℕ HeadError} (Err BodyTooLarge) (Err Length) = one_answer front _ _ x y in cc
read_refusals front BodyTooLarge BodyTooLarge x y = refl
read_refusals front d HeadTooLarge x y = absurd y
read_refusals front d Memory x y = absurd y
read_refusals front HeadTooLarge e x y = absurd x
read_refusals front Memory e x y = absurd x

pub one_refusal : (kind : Kind) (front : List ℕ) (lines : ℕ) (d e : HeadError) → Tells kind front lines (Err d) → Tells kind front lines (Err e) → d ≡ e
one_refusal Request front lines d e (inl (many, is)) (inl (also, too)) = is ∙ sym too
one_refusal Request front lines d e (inl (many, is)) (inr (few, y)) = absurd (omega arith)
one_refusal Request front lines d e (inr (few, x)) (inl (many, is)) = absurd (omega arith)
one_refusal Request front lines d e (inr (few, x)) (inr (also, y)) = read_refusals front d e x y
one_refusal Reply front lines d e (is, x) (too, y) = is ∙ sym too

-- ---- messages

-- of two prefixes of the same bytes the longer begins with the shorter
pub longer_front : (a b p q : List ℕ) → length b ≤ length a → a ++ p ≡ b ++ q → (c : List ℕ) × (a ≡ b ++ c)
longer_front a [] p q h e = (a, refl)
longer_front [] (y ∷ ys) p q h e = absurd (omega arith)
longer_front (x ∷ xs) (y ∷ ys) p q h e =
    let first : x ≡ y = cc in
    let rest : xs ++ p ≡ ys ++ q = cc in
    let behind = longer_front xs ys p q (omega arith) rest in
    (behind.0, (let whole : (x ∷ xs) ≡ y ∷ (ys ++ behind.0) = cc (first, behind.1) in whole))

-- two prefixes of the same bytes with one length are equal
pub same_fronts : (a b p q : List ℕ) → length a ≡ length b → a ++ p ≡ b ++ q → (a ≡ b) × (p ≡ q)
same_fronts [] [] p q h e = (refl, e)
same_fronts [] (y ∷ ys) p q h e = absurd (omega arith)
same_fronts (x ∷ xs) [] p q h e = absurd (omega arith)
same_fronts (x ∷ xs) (y ∷ ys) p q h e =
    let first : x ≡ y = cc in
    let rest : xs ++ p ≡ ys ++ q = cc in
    let same = same_fronts xs ys p q (omega arith) rest in
    ((let whole : (x ∷ xs) ≡ (y ∷ ys) = cc (first, same.0) in whole), same.1)

regroup : (a b c : List ℕ) → (a ++ b) ++ c ≡ a ++ (b ++ c)
regroup a b c = append_assoc a b c

-- bytes begin with at most one head, and its length is one
pub heads_once : (kind : Kind) (a b p q : List ℕ) (m n : ℕ) → HasHead kind a m → HasHead kind b n → a ++ p ≡ b ++ q → (a ≡ b) × (p ≡ q) × (m ≡ n)
heads_once kind a b p q m n x y e =
    let same = framed_once a b p q x.lines y.lines x.framed y.framed e in
    let tells : Tells kind a x.lines (Ok n) =
    subst (λ (c : List ℕ). Tells kind c x.lines (Ok n)) (sym same.0) (subst (λ (l : ℕ). Tells kind b l (Ok n)) (sym same.2) y.tells) in
    (same.0, same.1, one_told kind a x.lines m n x.tells tells)

-- no message is a prefix of another
pub message_once : (kind : Kind) (a b : Message) (p q : List ℕ) → IsMessage kind a → IsMessage kind b → print_message a ++ p ≡ print_message b ++ q → (a ≡ b) × (p ≡ q)
message_once kind a b p q x y e =
    let heads = heads_once kind a.head b.head (a.body ++ p) (b.body ++ q) (length a.body) (length b.body) x y
    (sym (regroup a.head a.body p) ∙ e ∙ regroup b.head b.body q) in
    let bodies = same_fronts a.body b.body p q heads.2 heads.1 in
    (ap₂ (λ (h t : List ℕ). record { head = h; body = t }) heads.0 bodies.0, bodies.1)

-- ---- refusals

-- bytes without a framed head, as many as a head may have, begin with no head
no_head_in : (kind : Kind) (head front p q : List ℕ) (n : ℕ) → HasHead kind head n → HasNoFrame front → length front ≡ head_limit → front ++ p ≡ head ++ q → ⊥
no_head_in kind head front p q n h none len e =
    let short : length head ≤ head_limit = h.short in
    let behind = longer_front front head p q (omega arith) e in
    none head behind.0 h.lines behind.1 h.framed

refused_head_none : (kind : Kind) (head front p q : List ℕ) (n : ℕ) (e : HeadError) → HasHead kind head n → IsRefused kind front e → front ++ p ≡ head ++ q → ⊥
refused_head_none kind head front p q n e h (inl (lines, framed, short, tells)) same =
    let one = framed_once front head p q lines h.lines framed h.framed same in
    let told : Tells kind front lines (Ok n) =
    subst (λ (c : List ℕ). Tells kind c lines (Ok n)) (sym one.0) (subst (λ (l : ℕ). Tells kind head l (Ok n)) (sym one.2) h.tells) in
    not_told kind front lines n e told tells
refused_head_none kind head front p q n e h (inr (is, len, none)) same = no_head_in kind head front p q n h none len same

-- bytes that are refused begin with no message
pub refused_none : (kind : Kind) (bytes : List ℕ) (e : HeadError) → Refuses kind bytes e → HasNoMessage kind bytes
refused_none kind bytes e r m more h split =
    refused_head_none kind m.head r.front r.more (m.body ++ more) (length m.body) e h r.refused
    (sym r.split ∙ split ∙ regroup m.head m.body more)

-- a prefix without a framed head that is as long as a head may be is the only refused one
limit_front : (kind : Kind) (a b p q : List ℕ) (d e : HeadError) → HasNoFrame a → length a ≡ head_limit → d ≡ HeadTooLarge → IsRefused kind b e → a ++ p ≡ b ++ q
    → (a ≡ b) × (p ≡ q) × (d ≡ e)
limit_front kind a b p q d e none len is (inl (lines, framed, short, tells)) same =
    let behind = longer_front a b p q (omega arith) same in
    absurd (none b behind.0 lines behind.1 framed)
limit_front kind a b p q d e none len is (inr (too, also, other)) same =
    let one = same_fronts a b p q (len ∙ sym also) same in (one.0, one.1, is ∙ sym too)

-- the refused prefix is one
pub refused_once : (kind : Kind) (a b p q : List ℕ) (d e : HeadError) → IsRefused kind a d → IsRefused kind b e → a ++ p ≡ b ++ q → (a ≡ b) × (p ≡ q) × (d ≡ e)
refused_once kind a b p q d e (inl (m, x, short, tells)) (inl (n, y, also, told)) same =
    let one = framed_once a b p q m n x y same in
    let other : Tells kind a m (Err e) =
    subst (λ (c : List ℕ). Tells kind c m (Err e)) (sym one.0) (subst (λ (l : ℕ). Tells kind b l (Err e)) (sym one.2) told) in
    (one.0, one.1, one_refusal kind a m d e tells other)
refused_once kind a b p q d e (inr (is, len, none)) y same = limit_front kind a b p q d e none len is y same
refused_once kind a b p q d e (inl x) (inr (is, len, none)) same =
    let one = limit_front kind b a q p e d none len is (inl x) (sym same) in (sym one.0, sym one.1, sym one.2)

pub refusals_stay : (kind : Kind) (bytes more : List ℕ) (e : HeadError) → Refuses kind bytes e → Refuses kind (bytes ++ more) e
refusals_stay kind bytes more e r = record {
  front = r.front;
  more = r.more ++ more;
  split = ap (λ b. b ++ more) r.split ∙ append_assoc r.front r.more more;
  refused = r.refused;
}

-- bytes have one refusal, whatever follows
pub refusals_are_one : (kind : Kind) (bytes more : List ℕ) (d e : HeadError) → Refuses kind bytes d → Refuses kind (bytes ++ more) e → d ≡ e
refusals_are_one kind bytes more d e x y =
    (refused_once kind x.front y.front (x.more ++ more) y.more d e x.refused y.refused
    (sym (append_assoc x.front x.more more) ∙ ap (λ b. b ++ more) (sym x.split) ∙ y.split)).2

-- ---- what is gathered

-- an incomplete message is not a message, and nothing of it is refused
scanned_none : (kind : Kind) (m : Message) (scan : Scan) → Stands kind m (Frame scan) → HasNoMessage kind (print_message m)
scanned_none kind m scan (goes, short, none) n more h split =
    no_frame m.head scan goes n.head (n.body ++ more) h.lines (sym (ap (λ b. m.head ++ b) none ∙ append-nil m.head) ∙ split ∙ regroup n.head n.body more) h.framed

partial_none : (kind : Kind) (m : Message) (told : ℕ) → HasHead kind m.head told → length m.body < told → HasNoMessage kind (print_message m)
partial_none kind m told h short n more x split =
    let heads = heads_once kind m.head n.head m.body (n.body ++ more) told (length n.body) h x (split ∙ regroup n.head n.body more) in
    let bodies : length m.body ≡ length n.body + length more = ap length heads.1 ∙ length-append n.body more in
    let told_is : told ≡ length n.body = heads.2 in
    absurd (omega arith)

pub open_none : (kind : Kind) (m : Message) (phase : Phase) → Stands kind m phase → is_whole phase ≡ false → HasNoMessage kind (print_message m)
open_none kind m (Frame scan) h e = scanned_none kind m scan h
open_none kind m (Body told) h e = partial_none kind m told h.0 h.1
open_none kind m Whole h e = absurd (cc)

scanned_goes : (kind : Kind) (m : Message) (scan : Scan) (e : HeadError) → Stands kind m (Frame scan) → Refuses kind (print_message m) e → ⊥
scanned_goes kind m scan e (goes, short, none) r =
    let whole : m.head ≡ r.front ++ r.more = sym (ap (λ b. m.head ++ b) none ∙ append-nil m.head) ∙ r.split in
    by_refusal whole r.refused
  where
    by_refusal : m.head ≡ r.front ++ r.more → IsRefused kind r.front e → ⊥
    by_refusal whole (inl (lines, framed, few, tells)) = no_frame m.head scan goes r.front r.more lines whole framed
    by_refusal whole (inr (is, len, other)) = omega (arith, ap length whole, length-append r.front r.more)

pub open_goes : (kind : Kind) (m : Message) (phase : Phase) (e : HeadError) → Stands kind m phase → is_whole phase ≡ false → Refuses kind (print_message m) e → ⊥
open_goes kind m (Frame scan) e h w r = scanned_goes kind m scan e h r
open_goes kind m (Body told) e h w r = refused_head_none kind m.head r.front r.more m.body told e h.0 r.refused (sym r.split)
open_goes kind m Whole e h w r = absurd (cc)

pub idle_stands : (g : Gathered) → IsIdle g → IsAt g
idle_stands g (message, phase) =
    subst (λ (m : Message). Stands g.kind m g.phase) (sym message)
    (subst (λ (p : Phase). Stands g.kind (record { head = []; body = [] }) p) (sym phase) (refl, (omega arith), refl))

pub whole_message : (kind : Kind) (m : Message) (phase : Phase) → Stands kind m phase → is_whole phase ≡ true → IsMessage kind m
whole_message kind m (Frame scan) h e = absurd (cc)
whole_message kind m (Body told) h e = absurd (cc)
whole_message kind m Whole h e = h

some_bytes : (piece : List ℕ) → piece ≢ [] → 0 < length piece
some_bytes [] some = absurd (some refl)
some_bytes (b ∷ bs) some = omega arith

-- every nonempty chunk changes the message
pub moves : (old new : Gathered) (piece : List ℕ) (n : ℕ) → new.kind ≡ old.kind → IsAt old → is_whole old.phase ≡ false → TakesSome old piece new n → piece ≢ []
    → 0 < n
moves old new piece zero kind at part h some =
    let message : IsMessage new.kind new.message = whole_message new.kind new.message new.phase h.stands (h.all (some_bytes piece some)) in
    absurd (open_none old.kind old.message old.phase at part new.message [] (subst (λ (k : Kind). IsMessage k new.message) kind message)
    (sym (append-nil (kept old)) ∙ sym h.kept ∙ sym (append-nil (kept new))))
moves old new piece (suc n) kind at part h some = omega arith

-- ---- lists of messages

-- the messages of a prefix are the first messages of all bytes
pub goes_further : (kind : Kind) (ms ns : List Message) (rest tail : List ℕ) → All (IsMessage kind) ms → All (IsMessage kind) ns
    → flat_map print_message ms ++ rest ≡ flat_map print_message ns ++ tail → HasNoMessage kind tail
    → (others : List Message) × (ns ≡ ms ++ others) × (rest ≡ flat_map print_message others ++ tail) × All (IsMessage kind) others
goes_further kind [] ns rest tail x y e none = (ns, refl, e, y)
goes_further kind (m ∷ ms) [] rest tail x y e none =
    absurd (none m (flat_map print_message ms ++ rest) (All-head (IsMessage kind) m ms x)
    (sym e ∙ append_assoc (print_message m) (flat_map print_message ms) rest))
goes_further kind (m ∷ ms) (n ∷ ns) rest tail x y e none =
    let one = message_once kind m n (flat_map print_message ms ++ rest) (flat_map print_message ns ++ tail)
    (All-head (IsMessage kind) m ms x) (All-head (IsMessage kind) n ns y)
    (sym (append_assoc (print_message m) (flat_map print_message ms) rest) ∙ e ∙ append_assoc (print_message n) (flat_map print_message ns) tail) in
    let further = goes_further kind ms ns rest tail (All-tail (IsMessage kind) m ms x) (All-tail (IsMessage kind) n ns y) one.1 none in
    (further.0, ap₂ (λ (a : Message) (b : List Message). a ∷ b) (sym one.0) further.1, further.2, further.3)

no_others : (kind : Kind) (others : List Message) (rest tail : List ℕ) → HasNoMessage kind rest → All (IsMessage kind) others → rest ≡ flat_map print_message others ++ tail → others ≡ []
no_others kind [] rest tail none x e = refl
no_others kind (m ∷ ms) rest tail none x e =
    absurd (none m (flat_map print_message ms ++ tail) (All-head (IsMessage kind) m ms x) (e ∙ append_assoc (print_message m) (flat_map print_message ms) tail))

pub splits_once : (kind : Kind) (bytes : List ℕ) (ms ns : List Message) (rest tail : List ℕ) → SplitsAs kind bytes ms rest → SplitsAs kind bytes ns tail → (ms ≡ ns) × (rest ≡ tail)
splits_once kind bytes ms ns rest tail x y =
    let further = goes_further kind ms ns rest tail x.whole y.whole (sym x.split ∙ y.split) y.last in
    let none = no_others kind further.0 rest tail x.last further.3 further.2 in (
      sym (append-nil ms) ∙ ap (λ (others : List Message). ms ++ others) (sym none) ∙ sym further.1,
      further.2 ∙ ap (λ (others : List Message). flat_map print_message others ++ tail) none,
    )

-- ---- lengths

-- refused bytes are at most as many as a head may have
pub refused_short : (kind : Kind) (bytes : List ℕ) (e : HeadError) → IsRefused kind bytes e → length bytes ≤ head_limit
refused_short kind bytes e (inl (lines, framed, short, tells)) = short
refused_short kind bytes e (inr (is, len, none)) = omega arith
