-- The walk ends at the first place with a fault.
use Rattle.std.proofs.Common.{◌≡◌, ◌≢◌, inl, inr, ℕ, zero, suc, ◌+◌, ◌<◌, ◌≤◌, List, [], ◌∷◌, length, take, drop, Bool, true, false, ◌&&◌, ◌==◌, nat_lt, if◌then◌else◌, Option, Some, None, refl, sym, ap, subst, ◌∙◌, arith}
use Rattle.std.proofs.lemmas.Bool.{ltb-true, ltb-false, eqb-true}
use Rattle.std.proofs.lemmas.List.{length-drop, drop-drop}
use Rattle.dmap_tags.specs.Codes.{Four}
use Rattle.dmap_tags.specs.Kinds.{is_list}
use Rattle.dmap_tags.specs.Typed.{leaf_at, value_of}
use Rattle.code_table.specs.declared.row.CodeRow.{CodeRow}
use Rattle.dmap_stream.specs.declared.containers.Container.{Container}
use Rattle.dmap_stream.specs.declared.event.Event.{Event}
use Rattle.dmap_stream.specs.declared.event.Event.TheVariants.{Open, Leaf}
use Rattle.dmap_stream.specs.declared.refusal.StreamError.{StreamError}
use Rattle.dmap_stream.specs.declared.refusal.StreamError.TheVariants.{ShortHead, Memory}
use Rattle.dmap_stream.specs.Reader.{Reader, Tells, TellsAs}
use Rattle.dmap_stream.specs.Walk.{Walk, Ending, between, inside, broken, ends, behind, is_empty, open_after, is_short, passes, fault_at, container, Onward, at_payload, at_body, unless_fault, behind_head, at_head, at_place, walk, walk_from, walk_of}
use Rattle.tag_laws.specs.Places.{Place, place, start, code_at, length_at, kind_at, HasHead, IsOpen, Next}
use Rattle.tag_laws.specs.Faults.{IsFirstFault, HasNoFault}
use Rattle.tag_laws.proofs.Ways.{remain, one_first_fault}
use Rattle.tag_laws.proofs.FromPlaces.{NoFaultAt, NoneFrom, FirstFrom, TellsFrom, first_here, none_behind, tells_on}
use Rattle.tag_laws.proofs.Heads.{Nested, IsHeadFault, short_is, room, nested_within, no_head, head_fault}

-- below n bytes, what is said from a later place on is what is found there
abbrev pub TellsBelow : List CodeRow → ℕ → List ℕ → ℕ → Onward → Type 0
TellsBelow rows limit bytes n f =
    (at : ℕ) (around : List Container) (rest : List ℕ) → rest ≡ drop at bytes → at ≤ length bytes → length rest < n → Nested at around
    → TellsFrom rows limit bytes (place at (open_after at around)) (f at around rest).ending

nested_left : (at : ℕ) (around : List Container) → Nested at around → Nested at (open_after at around)
nested_left at [] nested = tt
nested_left at (c ∷ around) nested = by (c.end == at) refl (nested_left at around)
  where
    by : (b : Bool) → (c.end == at) ≡ b → (Nested at around → Nested at (open_after at around)) → Nested at (if b then open_after at around else c ∷ around)
    by true is later = later (subst (λ n. Nested n around) (eqb-true c.end at is) nested.1)
    by false is later = nested

value_tells : (rows : List CodeRow) (limit : ℕ) (bytes : List ℕ) (n : ℕ) (f : Onward) → TellsBelow rows limit bytes n f → (p : Place)
    → NoFaultAt limit bytes p → HasHead bytes p → passes (p.at + 8 + length_at bytes p) p.around ≡ false → is_list (kind_at rows bytes p) ≡ false
    → length (drop p.at bytes) < suc n → Nested p.at p.around
    → TellsFrom rows limit bytes p (at_payload f p.at p.around (code_at bytes p) (kind_at rows bytes p) (length_at bytes p) (drop 8 (drop p.at bytes))).ending
value_tells rows limit bytes n f later p none head within value less nested = by (nat_lt (length payload) len) refl
  where
    len : ℕ
    len = length_at bytes p

    payload : List ℕ
    payload = drop 8 (drop p.at bytes)

    by : (b : Bool) → nat_lt (length payload) len ≡ b
        → TellsFrom rows limit bytes p (if b then ends inside else behind (Leaf (code_at bytes p) (value_of (leaf_at (kind_at rows bytes p) (take len payload))) p.at ∷ []) (f (p.at + 8 + len) p.around (drop len payload))).ending
    by true few = none_behind rows limit bytes p none last
      where
        last : (q : Place) → Next rows bytes p q → ⊥
        last q (inl e) = absurd (let bad : true ≡ false = sym e.list ∙ value in cc)
        last q (inr e) = let short = ltb-true (length payload) len few in let whole = e.whole in omega (arith, length-drop 8 (drop p.at bytes), length-drop p.at bytes)
    by false many =
        let long = ltb-false (length payload) len many in
        let whole : p.at + 8 + len ≤ length bytes = let there = head.whole in omega (arith, length-drop 8 (drop p.at bytes), length-drop p.at bytes) in
        let q = place (p.at + 8 + len) (open_after (p.at + 8 + len) p.around) in
        tells_on rows limit bytes p q (f (p.at + 8 + len) p.around (drop len payload)).ending none
        (inr (record { head = head; value = value; whole = whole; next = refl; left = remain (p.at + 8 + len) p.around }))
        (later (p.at + 8 + len) p.around (drop len payload) (ap (drop len) (drop-drop 8 p.at bytes) ∙ drop-drop len (p.at + 8) bytes) whole
        (let there = head.whole in omega (arith, length-drop len payload, length-drop 8 (drop p.at bytes), length-drop p.at bytes))
        (nested_within p.at (p.at + 8 + len) p.around nested within))

body_tells : (rows : List CodeRow) (limit : ℕ) (bytes : List ℕ) (n : ℕ) (f : Onward) → TellsBelow rows limit bytes n f → (p : Place)
    → NoFaultAt limit bytes p → HasHead bytes p → passes (p.at + 8 + length_at bytes p) p.around ≡ false
    → length (drop p.at bytes) < suc n → Nested p.at p.around
    → TellsFrom rows limit bytes p (at_body f p.at p.around (code_at bytes p) (kind_at rows bytes p) (length_at bytes p) (drop 8 (drop p.at bytes))).ending
body_tells rows limit bytes n f later p none head within less nested = by (is_list (kind_at rows bytes p)) refl
  where
    code : Four
    code = code_at bytes p

    len : ℕ
    len = length_at bytes p

    payload : List ℕ
    payload = drop 8 (drop p.at bytes)

    inner : List Container
    inner = container code p.at len ∷ p.around

    by : (b : Bool) → is_list (kind_at rows bytes p) ≡ b
        → TellsFrom rows limit bytes p (if b then behind (Open code len p.at ∷ []) (f (p.at + 8) inner payload) else at_payload f p.at p.around code (kind_at rows bytes p) len payload).ending
    by true list =
        let there = head.whole in
        tells_on rows limit bytes p (place (p.at + 8) (open_after (p.at + 8) inner)) (f (p.at + 8) inner payload).ending none
        (inl (record { head = head; list = list; next = refl; left = remain (p.at + 8) inner }))
        (later (p.at + 8) inner payload (drop-drop 8 p.at bytes) there (omega (arith, length-drop 8 (drop p.at bytes), length-drop p.at bytes))
        (omega arith, nested_within p.at (p.at + 8 + len) p.around nested within))
    by false value = value_tells rows limit bytes n f later p none head within value less nested

unless_tells : (rows : List CodeRow) (limit : ℕ) (bytes : List ℕ) (p : Place) (o : Option StreamError) (w : Walk) → IsHeadFault limit bytes p o
    → (NoFaultAt limit bytes p → passes (p.at + 8 + length_at bytes p) p.around ≡ false → TellsFrom rows limit bytes p w.ending)
    → TellsFrom rows limit bytes p (unless_fault o w).ending
unless_tells rows limit bytes p None w told body = body told.0 told.1
unless_tells rows limit bytes p (Some e) w told body = first_here rows limit bytes p e told

early_tells : (rows : List CodeRow) (limit : ℕ) (bytes : List ℕ) (p : Place) (b : Bool) → NoneFrom rows limit bytes p → TellsFrom rows limit bytes p (if b then between else inside)
early_tells rows limit bytes p true none = none
early_tells rows limit bytes p false none = none

head_tells : (rows : List CodeRow) (limit : ℕ) (bytes : List ℕ) (n : ℕ) (f : Onward) → TellsBelow rows limit bytes n f → (p : Place)
    → p.at ≤ length bytes → length (drop p.at bytes) < suc n → Nested p.at p.around → IsOpen p.at p.around → is_short p.at p.around ≡ false
    → TellsFrom rows limit bytes p (at_head f rows limit p.at p.around (drop p.at bytes)).ending
unfolding at_head behind_head
head_tells rows limit bytes n f later p reached less nested going short = by (nat_lt (length (drop p.at bytes)) 8) refl
  where
    by : (b : Bool) → nat_lt (length (drop p.at bytes)) 8 ≡ b
        → TellsFrom rows limit bytes p (if b then ends (if is_empty p.around && is_empty (drop p.at bytes) then between else inside) else behind_head f rows limit p.at p.around (code_at bytes p) (length_at bytes p) (drop 8 (drop p.at bytes))).ending
    by true few = early_tells rows limit bytes p (is_empty p.around && is_empty (drop p.at bytes)) (none_behind rows limit bytes p (no_head limit bytes p none short) last)
      where
        none : HasHead bytes p → ⊥
        none head = let there = head.whole in let below = ltb-true (length (drop p.at bytes)) 8 few in omega (arith, length-drop p.at bytes)

        last : (q : Place) → Next rows bytes p q → ⊥
        last q (inl e) = none e.head
        last q (inr e) = none e.head
    by false many =
        let enough = ltb-false (length (drop p.at bytes)) 8 many in
        let head : HasHead bytes p = record { whole = omega (arith, length-drop p.at bytes); room = room p.at p.around nested going short } in
        unless_tells rows limit bytes p (fault_at limit p.at p.around (code_at bytes p) (length_at bytes p))
        (at_body f p.at p.around (code_at bytes p) (kind_at rows bytes p) (length_at bytes p) (drop 8 (drop p.at bytes)))
        (head_fault limit bytes p head)
        (λ none within. body_tells rows limit bytes n f later p none head within less nested)

place_tells : (rows : List CodeRow) (limit : ℕ) (bytes : List ℕ) (n : ℕ) (f : Onward) → TellsBelow rows limit bytes n f → (at : ℕ) (around : List Container)
    → at ≤ length bytes → length (drop at bytes) < suc n → Nested at around
    → TellsFrom rows limit bytes (place at (open_after at around)) (at_place f rows limit at around (drop at bytes)).ending
unfolding at_place
place_tells rows limit bytes n f later at around reached less nested = by (is_short at (open_after at around)) refl
  where
    p : Place
    p = place at (open_after at around)

    by : (b : Bool) → is_short at (open_after at around) ≡ b
        → TellsFrom rows limit bytes p (if b then ends (broken (ShortHead at)) else at_head f rows limit at (open_after at around) (drop at bytes)).ending
    by true short = first_here rows limit bytes p (ShortHead at) (refl, short_is at (open_after at around) short)
    by false long = head_tells rows limit bytes n f later p reached less (nested_left at around nested) (remain at around).kept long

walk_tells : (rows : List CodeRow) (limit : ℕ) (bytes : List ℕ) (n : ℕ) → TellsBelow rows limit bytes n (walk rows limit n)
unfolding walk
walk_tells rows limit bytes zero at around rest is reached less nested = absurd (omega arith)
walk_tells rows limit bytes (suc n) at around rest is reached less nested =
    subst (λ l. TellsFrom rows limit bytes (place at (open_after at around)) (at_place (walk rows limit n) rows limit at around l).ending) (sym is)
    (place_tells rows limit bytes n (walk rows limit n) (walk_tells rows limit bytes n) at around reached (subst (λ l. length l < suc n) is less) nested)

whole_walk_tells : (rows : List CodeRow) (limit : ℕ) (bytes : List ℕ) → TellsFrom rows limit bytes start (walk_of rows limit bytes).ending
unfolding walk_from
whole_walk_tells rows limit bytes = walk_tells rows limit bytes (suc (length bytes)) 0 [] bytes refl (omega arith) (omega arith) tt

first_of_all : (rows : List CodeRow) (limit : ℕ) (bytes : List ℕ) (e : StreamError) → FirstFrom rows limit bytes start e → IsFirstFault rows limit bytes e
first_of_all rows limit bytes e f = record { place = f.place; reached = (f.way, f.leads); fault = f.fault; first = λ q g r h. f.first r.0 q g r.1 h }

none_of_all : (rows : List CodeRow) (limit : ℕ) (bytes : List ℕ) → NoneFrom rows limit bytes start → HasNoFault rows limit bytes
none_of_all rows limit bytes none = λ q f r h. none r.0 q f r.1 h

pub told : (rows : List CodeRow) (limit : ℕ) (bytes : List ℕ) (e : StreamError) → (walk_of rows limit bytes).ending ≡ broken e → IsFirstFault rows limit bytes e
told rows limit bytes e is = first_of_all rows limit bytes e (subst (λ ending. TellsFrom rows limit bytes start ending) is (whole_walk_tells rows limit bytes))

pub found : (rows : List CodeRow) (limit : ℕ) (bytes : List ℕ) (e : StreamError) → IsFirstFault rows limit bytes e → (walk_of rows limit bytes).ending ≡ broken e
found rows limit bytes e f = by (walk_of rows limit bytes).ending (whole_walk_tells rows limit bytes)
  where
    by : (ending : Ending) → TellsFrom rows limit bytes start ending → ending ≡ broken e
    by between none = absurd (none f.reached.0 f.place e f.reached.1 f.fault)
    by inside none = absurd (none f.reached.0 f.place e f.reached.1 f.fault)
    by (broken g) first = ap broken (one_first_fault rows limit bytes g e (first_of_all rows limit bytes g first) f)

pub unbroken : (rows : List CodeRow) (limit : ℕ) (bytes : List ℕ) → ((e : StreamError) → (walk_of rows limit bytes).ending ≢ broken e) → HasNoFault rows limit bytes
unbroken rows limit bytes h = by (walk_of rows limit bytes).ending h (whole_walk_tells rows limit bytes)
  where
    by : (ending : Ending) → ((e : StreamError) → ending ≢ broken e) → TellsFrom rows limit bytes start ending → HasNoFault rows limit bytes
    by between h none = none_of_all rows limit bytes none
    by inside h none = none_of_all rows limit bytes none
    by (broken e) h first = absurd (h e refl)

pub sound : (rows : List CodeRow) (limit : ℕ) (bytes : List ℕ) (e : StreamError) → HasNoFault rows limit bytes → (walk_of rows limit bytes).ending ≢ broken e
sound rows limit bytes e none = λ is. let f = told rows limit bytes e is in none f.place e f.reached f.fault

refused_as : (fed : List ℕ) (handed : List Event) (r : Reader) (o : Option StreamError) (e : StreamError) → TellsAs fed handed r o → o ≡ Some e → e ≢ Memory → IsFirstFault r.rows r.limit fed e
refused_as fed handed r None e h is known = absurd (cc)
refused_as fed handed r (Some f) e h is known =
    let same : f ≡ e = cc in
    told r.rows r.limit fed e (ap (λ (w : Walk). w.ending) (h.1 (λ m. known (sym same ∙ m))) ∙ ap broken same)

pub refused : (fed : List ℕ) (handed : List Event) (r : Reader) (e : StreamError) → Tells fed handed r → r.error ≡ Some e → e ≢ Memory → IsFirstFault r.rows r.limit fed e
refused fed handed r e h is known = refused_as fed handed r r.error e h is known

never_broken : (b : Bool) (e : StreamError) → (if b then between else inside) ≢ broken e
never_broken true e h = absurd (cc)
never_broken false e h = absurd (cc)

pub unrefused : (fed : List ℕ) (handed : List Event) (r : Reader) → Tells fed handed r → r.error ≡ None → HasNoFault r.rows r.limit fed
unrefused fed handed r h is =
    let all : TellsAs fed handed r None = subst (TellsAs fed handed r) is h in
    unbroken r.rows r.limit fed (λ e broke. never_broken _ e (sym (ap (λ (w : Walk). w.ending) all) ∙ broke))
