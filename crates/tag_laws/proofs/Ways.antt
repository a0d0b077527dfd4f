-- A place has one next place, which is further on; an offset has one place; and a place has one fault.
use Rattle.std.proofs.Common.{◌≡◌, inl, inr, ℕ, ◌+◌, ◌<◌, ◌≤◌, List, [], ◌∷◌, ◌++◌, length, Bool, true, false, ◌==◌, if◌then◌else◌, refl, sym, ap, subst, ◌∙◌, arith}
use Rattle.std.specs.List.{AllByRecursion}
use Rattle.std.proofs.lemmas.Bool.{eq-eqb, ne_eqb, eqb-true, eqb-false, cond-true, cond-false}
use Rattle.code_table.specs.declared.row.CodeRow.{CodeRow}
use Rattle.dmap_stream.specs.declared.containers.Container.{Container}
use Rattle.dmap_stream.specs.declared.refusal.StreamError.{StreamError}
use Rattle.dmap_stream.specs.declared.refusal.StreamError.TheVariants.{TooLarge, TooDeep, Overrun, ShortHead, Truncated, Memory}
use Rattle.dmap_stream.specs.Walk.{open_after, container}
use Rattle.tag_laws.specs.Places.{Place, place, start, code_at, length_at, HasRoom, IsOpen, Remain, EntersList, PassesValue, Next, Leads, IsPlace}
use Rattle.tag_laws.specs.Faults.{IsShort, Passes, HasFault, IsFirstFault}

open_stays : (at : ℕ) (left : List Container) → IsOpen at left → open_after at left ≡ left
open_stays at [] h = refl
open_stays at (c ∷ left) h = cond-false (c.end == at) _ _ (ne_eqb c.end at h)

all_closed : (at : ℕ) (closed left : List Container) → AllByRecursion (λ (c : Container). c.end ≡ at) closed → IsOpen at left → open_after at (closed ++ left) ≡ left
all_closed at [] left h k = open_stays at left k
all_closed at (c ∷ closed) left h k = cond-true (c.end == at) _ _ (eq-eqb c.end at h.0) ∙ all_closed at closed left h.1 k

-- the lists that remain open are one list
remain_is : (at : ℕ) (around left : List Container) → Remain at around left → left ≡ open_after at around
remain_is at around left r = sym (ap (open_after at) r.parts ∙ all_closed at r.closed left r.ended r.kept)

pub remain : (at : ℕ) (around : List Container) → Remain at around (open_after at around)
remain at [] = record { closed = []; parts = refl; ended = tt; kept = tt }
remain at (c ∷ around) = by (c.end == at) refl (remain at around)
  where
    by : (b : Bool) → (c.end == at) ≡ b → Remain at around (open_after at around) → Remain at (c ∷ around) (if b then open_after at around else c ∷ around)
    by true is later = record { closed = c ∷ later.closed; parts = ap (λ l. c ∷ l) later.parts; ended = (eqb-true c.end at is, later.ended); kept = later.kept }
    by false is later = record { closed = []; parts = refl; ended = tt; kept = eqb-false c.end at is }

-- the place after a list's head, and the one after a value's tag
abbrev pub in_list : List ℕ → Place → Place
in_list bytes p = place (p.at + 8) (open_after (p.at + 8) (container (code_at bytes p) p.at (length_at bytes p) ∷ p.around))

abbrev pub behind_value : List ℕ → Place → Place
behind_value bytes p = place (p.at + 8 + length_at bytes p) (open_after (p.at + 8 + length_at bytes p) p.around)

same_place : (q : Place) (at : ℕ) (around : List Container) → q.at ≡ at → q.around ≡ open_after q.at around → q ≡ place at (open_after at around)
same_place q at around h k = ap (λ l. place q.at l) k ∙ ap (λ n. place n (open_after n around)) h

list_is : (rows : List CodeRow) (bytes : List ℕ) (p q : Place) → EntersList rows bytes p q → q ≡ in_list bytes p
list_is rows bytes p q e =
    let around = container (code_at bytes p) p.at (length_at bytes p) ∷ p.around in
    same_place q (p.at + 8) around e.next (remain_is q.at around q.around e.left)

value_is : (rows : List CodeRow) (bytes : List ℕ) (p q : Place) → PassesValue rows bytes p q → q ≡ behind_value bytes p
value_is rows bytes p q e = same_place q (p.at + 8 + length_at bytes p) p.around e.next (remain_is q.at p.around q.around e.left)

pub next_one : (rows : List CodeRow) (bytes : List ℕ) (p q r : Place) → Next rows bytes p q → Next rows bytes p r → q ≡ r
next_one rows bytes p q r (inl a) (inl b) = list_is rows bytes p q a ∙ sym (list_is rows bytes p r b)
next_one rows bytes p q r (inl a) (inr b) = absurd (let bad : true ≡ false = sym a.list ∙ b.value in cc)
next_one rows bytes p q r (inr a) (inl b) = absurd (let bad : true ≡ false = sym b.list ∙ a.value in cc)
next_one rows bytes p q r (inr a) (inr b) = value_is rows bytes p q a ∙ sym (value_is rows bytes p r b)

pub next_later : (rows : List CodeRow) (bytes : List ℕ) (p q : Place) → Next rows bytes p q → p.at < q.at
next_later rows bytes p q (inl a) = let h = a.next in omega arith
next_later rows bytes p q (inr a) = let h = a.next in omega arith

-- places on the way are in ascending order
pub way_later : (rows : List CodeRow) (bytes : List ℕ) (way : List Place) (p q : Place) → Leads rows bytes p way q → p.at ≤ q.at
way_later rows bytes [] p q h = subst (λ (x : Place). p.at ≤ x.at) h (omega arith)
way_later rows bytes (r ∷ way) p q h =
    let here = next_later rows bytes p r h.0 in
    let later = way_later rows bytes way r q h.1 in
    omega arith

-- an offset has one place
pub one_place : (rows : List CodeRow) (bytes : List ℕ) (way path : List Place) (p q r : Place) → Leads rows bytes p way q → Leads rows bytes p path r → q.at ≡ r.at → q ≡ r
one_place rows bytes [] [] p q r h k same = sym h ∙ k
one_place rows bytes [] (s ∷ path) p q r h k same =
    let here = next_later rows bytes p s k.0 in
    let later = way_later rows bytes path s r k.1 in
    let at : p.at ≡ q.at = ap (λ (x : Place). x.at) h in
    absurd (omega arith)
one_place rows bytes (s ∷ way) [] p q r h k same =
    let here = next_later rows bytes p s h.0 in
    let later = way_later rows bytes way s q h.1 in
    let at : p.at ≡ r.at = ap (λ (x : Place). x.at) k in
    absurd (omega arith)
one_place rows bytes (s ∷ way) (t ∷ path) p q r h k same =
    one_place rows bytes way path t q r (subst (λ x. Leads rows bytes x way q) (next_one rows bytes p s t h.0 k.0) h.1) k.1 same

-- a list with space for a head is not short
pub room_or_short : (at : ℕ) (around : List Container) → HasRoom at around → IsShort at around → ⊥
room_or_short at [] h k = k
room_or_short at (c ∷ around) h k = let a = k.0 in let b = k.1 in omega arith

top_is_shallow : (around : List Container) → around ≡ [] → 32 ≤ length around → ⊥
top_is_shallow around top deep = let bad : 32 ≤ length {A = Container} [] = subst (λ l. 32 ≤ length l) top deep in omega arith

pub one_fault : (limit : ℕ) (bytes : List ℕ) (p : Place) (e f : StreamError) → HasFault limit bytes p e → HasFault limit bytes p f → e ≡ f
one_fault limit bytes p (TooLarge a) (TooLarge b) h k = ap TooLarge (h.0 ∙ sym k.0)
one_fault limit bytes p (TooLarge a) (TooDeep b) h k = absurd (top_is_shallow p.around h.2 k.2)
one_fault limit bytes p (TooLarge a) (Overrun b c) h k = absurd (subst (Passes (p.at + 8 + length_at bytes p)) h.2 k.4)
one_fault limit bytes p (TooLarge a) (ShortHead b) h k = absurd (subst (IsShort p.at) h.2 k.1)
one_fault limit bytes p (TooLarge a) (Truncated b) h k = absurd k
one_fault limit bytes p (TooLarge a) Memory h k = absurd k
one_fault limit bytes p (TooDeep a) (TooLarge b) h k = absurd (top_is_shallow p.around k.2 h.2)
one_fault limit bytes p (TooDeep a) (TooDeep b) h k = ap TooDeep (h.0 ∙ sym k.0)
one_fault limit bytes p (TooDeep a) (Overrun b c) h k = absurd (let deep = h.2 in let shallow = k.3 in omega arith)
one_fault limit bytes p (TooDeep a) (ShortHead b) h k = absurd (room_or_short p.at p.around h.1.room k.1)
one_fault limit bytes p (TooDeep a) (Truncated b) h k = absurd k
one_fault limit bytes p (TooDeep a) Memory h k = absurd k
one_fault limit bytes p (Overrun a c) (TooLarge b) h k = absurd (subst (Passes (p.at + 8 + length_at bytes p)) k.2 h.4)
one_fault limit bytes p (Overrun a c) (TooDeep b) h k = absurd (let deep = k.2 in let shallow = h.3 in omega arith)
one_fault limit bytes p (Overrun a c) (Overrun b d) h k = ap (λ n. Overrun n c) (h.0 ∙ sym k.0) ∙ ap (λ x. Overrun b x) (h.2 ∙ sym k.2)
one_fault limit bytes p (Overrun a c) (ShortHead b) h k = absurd (room_or_short p.at p.around h.1.room k.1)
one_fault limit bytes p (Overrun a c) (Truncated b) h k = absurd k
one_fault limit bytes p (Overrun a c) Memory h k = absurd k
one_fault limit bytes p (ShortHead a) (TooLarge b) h k = absurd (subst (IsShort p.at) k.2 h.1)
one_fault limit bytes p (ShortHead a) (TooDeep b) h k = absurd (room_or_short p.at p.around k.1.room h.1)
one_fault limit bytes p (ShortHead a) (Overrun b c) h k = absurd (room_or_short p.at p.around k.1.room h.1)
one_fault limit bytes p (ShortHead a) (ShortHead b) h k = ap ShortHead (h.0 ∙ sym k.0)
one_fault limit bytes p (ShortHead a) (Truncated b) h k = absurd k
one_fault limit bytes p (ShortHead a) Memory h k = absurd k
one_fault limit bytes p (Truncated a) f h k = absurd h
one_fault limit bytes p Memory f h k = absurd h

pub one_first_fault : (rows : List CodeRow) (limit : ℕ) (bytes : List ℕ) (e f : StreamError) → IsFirstFault rows limit bytes e → IsFirstFault rows limit bytes f → e ≡ f
one_first_fault rows limit bytes e f a b =
    let le = a.first b.place f b.reached b.fault in
    let ge = b.first a.place e a.reached a.fault in
    let same = one_place rows bytes a.reached.0 b.reached.0 start a.place b.place a.reached.1 b.reached.1 (omega arith) in
    one_fault limit bytes b.place e f (subst (λ (x : Place). HasFault limit bytes x e) same a.fault) b.fault

pub place_once : (rows : List CodeRow) (bytes : List ℕ) (p q : Place) → IsPlace rows bytes p → IsPlace rows bytes q → p.at ≡ q.at → p ≡ q
place_once rows bytes p q h k same = one_place rows bytes h.0 k.0 start p q h.1 k.1 same
