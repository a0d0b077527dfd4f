-- What a reader has read, before and after a call.
use Rattle.std.proofs.Common.{◌≡◌, ◌≢◌, ◌⊎◌, inl, inr, ℕ, ◌+◌, ◌<◌, ◌≤◌, List, [], ◌∷◌, ◌++◌, length, take, drop, Bool, true, false, not, ◌&&◌, nat_lt, if◌then◌else◌, Option, Some, None, Ok, Err, IfNone, IfSome, refl, sym, ap, subst, ◌∙◌, arith, length-append, append_assoc}
use Rattle.std.specs.Prelude.{option_to_list}
use Rattle.std.proofs.lemmas.List.{append-nil, length-take}
use Rattle.std.proofs.lemmas.Bool.{cond-true, cond-false, and_parts, le-ltb, ltb-true}
use Rattle.dmap_tags.specs.Typed.{leaf_at, value_of}
use Rattle.code_table.specs.declared.row.CodeRow.{CodeRow}
use Rattle.dmap_stream.specs.declared.event.Event.{Event}
use Rattle.dmap_stream.specs.declared.event.Event.TheVariants.{Leaf}
use Rattle.dmap_stream.specs.declared.position.Position.{Position}
use Rattle.dmap_stream.specs.declared.position.Phase.{Phase}
use Rattle.dmap_stream.specs.declared.position.Phase.TheVariants.{Head, Payload}
use Rattle.dmap_stream.specs.declared.refusal.StreamError.{StreamError}
use Rattle.dmap_stream.specs.declared.refusal.StreamError.TheVariants.{TooLarge, TooDeep, Overrun, ShortHead, Truncated, Memory}
use Rattle.dmap_stream.specs.Walk.{Walk, between, inside, broken, ends, behind, is_empty, open_after, at_head, at_place, walk_from, walk_of}
use Rattle.dmap_stream.specs.Reading.{ready_at, resumed, is_due, is_between, bytes_kept, bytes_taken, Takes}
use Rattle.dmap_stream.specs.Reader.{Reader, ready, kept, ending_at, ReadAs, HasRead, TellsAs, Tells, EndInLeaf}
use Rattle.dmap_stream.proofs.Onward.{walk_on}

memory_or : (e : StreamError) → (e ≡ Memory) ⊎ (e ≢ Memory)
memory_or (TooLarge at) = inr (λ h. absurd (cc))
memory_or (TooDeep at) = inr (λ h. absurd (cc))
memory_or (Overrun at c) = inr (λ h. absurd (cc))
memory_or (ShortHead at) = inr (λ h. absurd (cc))
memory_or (Truncated at) = inr (λ h. absurd (cc))
memory_or Memory = inl refl

begin : (rows : List CodeRow) (limit : ℕ) (rest : List ℕ) → walk_of rows limit rest ≡ at_head (walk_from rows limit) rows limit 0 [] rest
unfolding at_place
begin rows limit rest = walk_on rows limit 0 [] rest

abbrev pub at_start : Position
at_start = record { start = 0; around = []; phase = Head; part = []; ready = None }

begins_at : (rows : List CodeRow) (limit : ℕ) → ReadAs [] [] (record { rows = rows; limit = limit; position = at_start; error = None }) None
begins_at rows limit = (refl, refl, λ rest. begin rows limit rest)

pub begins : (rows : List CodeRow) (limit : ℕ) (p : Position) → p ≡ at_start → HasRead [] [] (record { rows = rows; limit = limit; position = p; error = None })
begins rows limit p h =
    subst (λ q. ReadAs [] [] (record { rows = rows; limit = limit; position = q; error = None }) None) (sym h) (begins_at rows limit)

-- after the events that are ready come those of the bytes
behind_more : (es fs : List Event) (w : Walk) → behind es (behind fs w) ≡ behind (es ++ fs) w
behind_more es fs w = ap (λ l. record { events = l; ending = w.ending }) (sym (append_assoc es fs w.events))

no_more : (handed es : List Event) → es ≡ [] → handed ++ es ≡ handed
no_more handed es h = rw h (append-nil handed)

-- bytes that a call took
took_on : (rows : List CodeRow) (limit : ℕ) (fed taken rest : List ℕ) (handed es fs : List Event) (w w' : Walk) → es ≡ [] →
    walk_of rows limit (fed ++ (taken ++ rest)) ≡ behind (handed ++ es) w → w ≡ behind fs w' →
    walk_of rows limit ((fed ++ taken) ++ rest) ≡ behind (handed ++ fs) w'
took_on rows limit fed taken rest handed es fs w w' quiet h k =
    ap (walk_of rows limit) (append_assoc fed taken rest) ∙ h
    ∙ ap (λ l. behind l w) (no_more handed es quiet) ∙ ap (behind handed) k ∙ behind_more handed fs w'

pub fed_more : (rows : List CodeRow) (limit : ℕ) (fed piece : List ℕ) (handed : List Event) (p q : Position) (n : ℕ) →
    ready_at p ≡ [] → Takes rows limit (resumed rows limit p) piece q (Ok n) → bytes_taken q ≡ bytes_taken p + n →
    HasRead fed handed (record { rows = rows; limit = limit; position = p; error = None }) →
    HasRead (fed ++ take n piece) handed (record { rows = rows; limit = limit; position = q; error = None })
fed_more rows limit fed piece handed p q n quiet takes count h =
    let long : length (fed ++ take n piece) ≡ length fed + n = length-append fed (take n piece) ∙ ap (λ k. length fed + k) (length-take n piece ∙ (let within : n ≤ length piece = takes.0 in omega arith)) in
    let before : bytes_taken p ≡ length fed = h.1 in (
      takes.2,
      omega arith,
      λ rest. took_on rows limit fed (take n piece) rest handed (ready_at p) (ready_at q) (resumed rows limit p (take n piece ++ rest)) (resumed rows limit q rest) quiet (h.2 (take n piece ++ rest)) (takes.3 rest),
    )

pub fed_broken : (rows : List CodeRow) (limit : ℕ) (fed piece : List ℕ) (handed : List Event) (p q : Position) (e : StreamError) →
    ready_at p ≡ [] → Takes rows limit (resumed rows limit p) piece q (Err e) →
    HasRead fed handed (record { rows = rows; limit = limit; position = p; error = None }) →
    HasRead (fed ++ piece) handed (record { rows = rows; limit = limit; position = q; error = Some e })
fed_broken rows limit fed piece handed p q e quiet takes h = (
  (λ rest. elim (memory_or e) [ inl memory ↦ (resumed rows limit p (piece ++ rest), unknown memory rest) | inr known ↦ (ends (broken e), told known rest) ]),
  told,
)
  where
    unknown : e ≡ Memory → (rest : List ℕ) → walk_of rows limit ((fed ++ piece) ++ rest) ≡ behind (handed ++ ready_at q) (resumed rows limit p (piece ++ rest))
    unknown memory rest =
        ap (walk_of rows limit) (append_assoc fed piece rest) ∙ h.2 (piece ++ rest)
        ∙ ap (λ l. behind l (resumed rows limit p (piece ++ rest))) (no_more handed (ready_at p) quiet ∙ sym (no_more handed (ready_at q) (takes.0 memory)))

    told : e ≢ Memory → (rest : List ℕ) → walk_of rows limit ((fed ++ piece) ++ rest) ≡ behind (handed ++ ready_at q) (ends (broken e))
    told known rest =
        took_on rows limit fed piece rest handed (ready_at p) (ready_at q) (resumed rows limit p (piece ++ rest)) (ends (broken e)) quiet (h.2 (piece ++ rest)) (takes.1 known rest)

-- a call that takes nothing, as an event is ready
pub fed_none : (fed piece : List ℕ) (handed : List Event) (r : Reader) → HasRead fed handed r → HasRead (fed ++ take 0 piece) handed r
fed_none fed piece handed r h = subst (λ l. HasRead l handed r) (sym (append-nil fed)) h

-- what is fed after an error
pub fed_after : (fed piece : List ℕ) (handed : List Event) (r : Reader) (e : StreamError) → r.error ≡ Some e → HasRead fed handed r → HasRead (fed ++ piece) handed r
fed_after fed piece handed r e stopped h =
    subst (ReadAs (fed ++ piece) handed r) (sym stopped) (
      (λ rest. let later = (subst (ReadAs fed handed r) stopped h).0 (piece ++ rest) in (later.0, ap (walk_of r.rows r.limit) (append_assoc fed piece rest) ∙ later.1)),
      λ known rest. ap (walk_of r.rows r.limit) (append_assoc fed piece rest) ∙ (subst (ReadAs fed handed r) stopped h).1 known (piece ++ rest),
    )

-- an event that was ready is returned
pub handed_more : (rows : List CodeRow) (limit : ℕ) (error : Option StreamError) (fed : List ℕ) (handed es : List Event) (p q : Position) →
    ready_at p ≡ es ++ ready_at q → ((rest : List ℕ) → resumed rows limit q rest ≡ resumed rows limit p rest) → is_due q ≡ is_due p → bytes_taken q ≡ bytes_taken p →
    HasRead fed handed (record { rows = rows; limit = limit; position = p; error = error }) →
    HasRead fed (handed ++ es) (record { rows = rows; limit = limit; position = q; error = error })
handed_more rows limit None fed handed es p q given goes due count h = (
  due ∙ h.0,
  count ∙ h.1,
  λ rest. h.2 rest ∙ ap (λ l. behind l (resumed rows limit p rest)) (moved) ∙ ap (behind ((handed ++ es) ++ ready_at q)) (sym (goes rest)),
)
  where
    moved : handed ++ ready_at p ≡ (handed ++ es) ++ ready_at q
    moved = ap (λ l. handed ++ l) given ∙ sym (append_assoc handed es (ready_at q))
handed_more rows limit (Some e) fed handed es p q given goes due count h = (
  (λ rest. ((h.0 rest).0, (h.0 rest).1 ∙ ap (λ l. behind l (h.0 rest).0) moved)),
  λ known rest. h.1 known rest ∙ ap (λ l. behind l (ends (broken e))) moved,
)
  where
    moved : handed ++ ready_at p ≡ (handed ++ es) ++ ready_at q
    moved = ap (λ l. handed ++ l) given ∙ sym (append_assoc handed es (ready_at q))

pub taken_out : (result : Option Event) (p q : Position) → IfNone result ((ready_at p ≡ []) × (q ≡ p)) → IfSome result (λ event. ready_at p ≡ event ∷ ready_at q) → ready_at p ≡ option_to_list result ++ ready_at q
taken_out None p q none some = sym (ap ready_at none.1)
taken_out (Some event) p q none some = some

-- no more bytes, no more events
quiet_head : (rows : List CodeRow) (limit at : ℕ) (p : Position) → nat_lt (length p.part) 8 ≡ true →
    at_head (walk_from rows limit) rows limit p.start (open_after p.start p.around) (p.part ++ []) ≡ ends (if is_empty (open_after p.start p.around) && is_empty p.part then between else inside)
unfolding at_head
quiet_head rows limit at p less = rw append-nil (cond-true (nat_lt (length p.part) 8) _ _ less)

quiet_as : (rows : List CodeRow) (limit : ℕ) (p : Position) (phase : Phase) → p.phase ≡ phase → is_due p ≡ true → resumed rows limit p [] ≡ ends (ending_at p)
quiet_as rows limit p Head h due = rw h (quiet_head rows limit 0 p (rw h at due))
quiet_as rows limit p (Payload c kind len) h due =
    rw h (rw append-nil (cond-true (nat_lt (length p.part) len) _ _ (and_parts _ _ (rw h at due)).1))

told_as : (fed : List ℕ) (handed : List Event) (r : Reader) (error : Option StreamError) → ReadAs fed handed r error → TellsAs fed handed r error
told_as fed handed r None h =
    ap (walk_of r.rows r.limit) (sym (append-nil fed)) ∙ h.2 []
    ∙ ap (behind (handed ++ ready r)) (quiet_as r.rows r.limit r.position r.position.phase refl h.0)
    ∙ ap (λ l. record { events = l; ending = ending_at r.position }) (append-nil (handed ++ ready r))
told_as fed handed r (Some e) h = (
  ((h.0 []).0.events, ap (λ (w : Walk). w.events) (ap (walk_of r.rows r.limit) (sym (append-nil fed)) ∙ (h.0 []).1)),
  λ known.
      ap (walk_of r.rows r.limit) (sym (append-nil fed)) ∙ h.1 known []
      ∙ ap (λ l. record { events = l; ending = broken e }) (append-nil (handed ++ ready r)),
)

pub told : (fed : List ℕ) (handed : List Event) (r : Reader) → HasRead fed handed r → Tells fed handed r
told fed handed r h = told_as fed handed r r.error h

-- the ending of the bytes, by a reader that no error has stopped
pub ending_told : (fed : List ℕ) (handed : List Event) (r : Reader) (b : Bool) → HasRead fed handed r → r.error ≡ None → is_between r.position ≡ b →
    (walk_of r.rows r.limit fed).ending ≡ (if b then between else inside)
ending_told fed handed r b h goes is =
    let read : ReadAs fed handed r None = subst (ReadAs fed handed r) goes h in
    ap (λ w. w.ending) (told_as fed handed r None read) ∙ ap (λ x. if x then between else inside) is

pub count_told : (fed : List ℕ) (handed : List Event) (r : Reader) → HasRead fed handed r → r.error ≡ None → bytes_taken r.position ≡ length fed
count_told fed handed r h goes = (subst (ReadAs fed handed r) goes h).1

none_ready : (es : List Event) → not (is_empty es) ≡ false → es ≡ []
none_ready [] h = refl
none_ready (e ∷ es) h = absurd (cc)

-- a reader that continues from its state before the call
pub went_on : (rows : List CodeRow) (limit : ℕ) (fed piece : List ℕ) (handed : List Event) (old : Reader) (p q : Position) (error : Option StreamError) (n : ℕ) →
    error ≡ None → record { rows = rows; limit = limit; position = p; error = error } ≡ old → not (is_empty (ready_at p)) ≡ false →
    Takes rows limit (resumed rows limit p) piece q (Ok n) → bytes_taken q ≡ bytes_taken p + n →
    HasRead fed handed old → HasRead (fed ++ take n piece) handed (record { rows = rows; limit = limit; position = q; error = error })
went_on rows limit fed piece handed old p q error n goes is quiet takes count h =
    let before : HasRead fed handed (record { rows = rows; limit = limit; position = p; error = None }) =
    subst (HasRead fed handed) (sym is ∙ ap (λ o. record { rows = rows; limit = limit; position = p; error = o }) goes) h in
    subst (λ o. HasRead (fed ++ take n piece) handed (record { rows = rows; limit = limit; position = q; error = o })) (sym goes)
    (fed_more rows limit fed piece handed p q n (none_ready (ready_at p) quiet) takes count before)

pub stopped : (rows : List CodeRow) (limit : ℕ) (fed piece : List ℕ) (handed : List Event) (old : Reader) (p q : Position) (error : Option StreamError) (e e' : StreamError) →
    error ≡ None → record { rows = rows; limit = limit; position = p; error = error } ≡ old → not (is_empty (ready_at p)) ≡ false →
    Takes rows limit (resumed rows limit p) piece q (Err e) → e' ≡ e →
    HasRead fed handed old → HasRead (fed ++ piece) handed (record { rows = rows; limit = limit; position = q; error = Some e' })
stopped rows limit fed piece handed old p q error e e' goes is quiet takes copied h =
    let before : HasRead fed handed (record { rows = rows; limit = limit; position = p; error = None }) =
    subst (HasRead fed handed) (sym is ∙ ap (λ o. record { rows = rows; limit = limit; position = p; error = o }) goes) h in
    subst (λ o. HasRead (fed ++ piece) handed (record { rows = rows; limit = limit; position = q; error = Some o })) (sym copied)
    (fed_broken rows limit fed piece handed p q e (none_ready (ready_at p) quiet) takes before)

-- while nothing is ready, the events of the bytes are those that were returned
quiet_front : (rows : List CodeRow) (limit : ℕ) (fed piece : List ℕ) (handed : List Event) (p q : Position) (n : ℕ) →
    ready_at p ≡ [] → Takes rows limit (resumed rows limit p) piece q (Ok n) →
    HasRead fed handed (record { rows = rows; limit = limit; position = p; error = None }) →
    (m : ℕ) → m < n → (walk_of rows limit (fed ++ take m piece)).events ≡ handed
quiet_front rows limit fed piece handed p q n quiet takes h m few =
    ap (λ (w : Walk). w.events) (h.2 (take m piece))
    ∙ ap (λ l. (handed ++ ready_at p) ++ l) (takes.4 m few)
    ∙ append-nil (handed ++ ready_at p) ∙ no_more handed (ready_at p) quiet

pub went_no_further : (rows : List CodeRow) (limit : ℕ) (fed piece : List ℕ) (handed : List Event) (old : Reader) (p q : Position) (error : Option StreamError) (n : ℕ) →
    error ≡ None → record { rows = rows; limit = limit; position = p; error = error } ≡ old → not (is_empty (ready_at p)) ≡ false →
    Takes rows limit (resumed rows limit p) piece q (Ok n) →
    HasRead fed handed old → (m : ℕ) → m < n → (walk_of old.rows old.limit (fed ++ take m piece)).events ≡ handed
went_no_further rows limit fed piece handed old p q error n goes is quiet takes h m few =
    let before : HasRead fed handed (record { rows = rows; limit = limit; position = p; error = None }) =
    subst (HasRead fed handed) (sym is ∙ ap (λ o. record { rows = rows; limit = limit; position = p; error = o }) goes) h in
    ap (λ (r : Reader). (walk_of r.rows r.limit (fed ++ take m piece)).events) (sym is)
    ∙ quiet_front rows limit fed piece handed p q n (none_ready (ready_at p) quiet) takes before m few

-- bytes of a payload are kept only inside a leaf
ends_in_leaf : (rows : List CodeRow) (limit : ℕ) (fed : List ℕ) (handed : List Event) (p : Position) (phase : Phase) → p.phase ≡ phase →
    ReadAs fed handed (record { rows = rows; limit = limit; position = p; error = None }) None → 0 < bytes_kept p →
    EndInLeaf rows limit fed (handed ++ ready_at p) (bytes_kept p)
ends_in_leaf rows limit fed handed p Head h read some = absurd (let none : 0 < 0 = (rw h at some) in omega arith)
ends_in_leaf rows limit fed handed p (Payload c kind len) h read some =
    let due = and_parts _ _ (rw h at read.0) in
    let count : p.start + 8 + length p.part ≡ length fed = (rw h at read.1) in
    rw h (record {
      at = p.start;
      code = c;
      len = len;
      since_head = count;
      unfinished = ltb-true (length p.part) len due.1;
      awaited = λ rest all. (value_of (leaf_at kind (take len (p.part ++ rest))), (later rest, ap (λ (w : Walk). w.events) (read.2 rest ∙ ap (behind (handed ++ ready_at p)) (whole rest all))));
    })
  where
    onward : List ℕ → Walk
    onward rest = walk_from rows limit (p.start + 8 + len) (open_after p.start p.around) (drop len (p.part ++ rest))

    later : List ℕ → List Event
    later rest = (onward rest).events

    whole : (rest : List ℕ) → length p.part + length rest ≡ len →
        resumed rows limit p rest ≡ behind (Leaf c (value_of (leaf_at kind (take len (p.part ++ rest)))) p.start ∷ []) (onward rest)
    whole rest all = rw h (cond-false _ _ _ (le-ltb (length (p.part ++ rest)) len (omega (arith, length-append p.part rest))))

pub held_in_leaf : (fed : List ℕ) (handed : List Event) (r : Reader) → HasRead fed handed r → r.error ≡ None → 0 < kept r → EndInLeaf r.rows r.limit fed (handed ++ ready r) (kept r)
held_in_leaf fed handed r h goes some = ends_in_leaf r.rows r.limit fed handed r.position r.position.phase refl (subst (ReadAs fed handed r) goes h) some
