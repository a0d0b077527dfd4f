-- Bytes have few events, so that they can be counted; and what a reader's calls do to the count.
use Rattle.std.proofs.Common.{◌≡◌, ◌≢◌, ℕ, zero, suc, ◌+◌, ◌-◌, ◌&&◌, ◌==◌, ◌<◌, ◌≤◌, List, [], ◌∷◌, ◌++◌, length, take, drop, fold, Bool, true, false, nat_lt, if◌then◌else◌, Option, Some, None, refl, ap, subst, ◌∙◌, arith, length-append}
use Rattle.std.proofs.lemmas.Bool.{ltb-false}
use Rattle.std.proofs.lemmas.List.{append-nil, length-drop}
use Rattle.dmap_tags.specs.Codes.{Four, code_of}
use Rattle.dmap_tags.specs.Typed.{leaf_at, value_of}
use Rattle.dmap_tags.specs.Kinds.{is_list}
use Rattle.dmap_tags.specs.declared.kinds.Kind.{Kind}
use Rattle.code_table.specs.declared.row.CodeRow.{CodeRow}
use Rattle.code_table.specs.Rows.{kind_in}
use Rattle.dmap_stream.specs.declared.containers.Container.{Container}
use Rattle.dmap_stream.specs.declared.event.Event.{Event}
use Rattle.dmap_stream.specs.declared.event.Event.TheVariants.{Open, Leaf, Close}
use Rattle.dmap_stream.specs.declared.refusal.StreamError.{StreamError}
use Rattle.dmap_stream.specs.declared.refusal.StreamError.TheVariants.{ShortHead}
use Rattle.dmap_stream.specs.Walk.{Walk, between, inside, ends, behind, container, is_empty, broken, closes, open_after, is_short, parent_of, fault_at, told_length, Onward, at_payload, at_body, unless_fault, behind_head, at_head, at_place, walk, walk_from, walk_of}
use Rattle.dmap_stream.specs.Reader.{Reader, ready, HasRead, TellsAs}
use Rattle.dmap_stream.proofs.Readings.{told}
use Rattle.tag_commands.specs.Counting.{with_tag, after_event, no_tops}
use Rattle.tag_commands.specs.declared.tops.Tops.{Tops}

abbrev events_in : Walk → ℕ
events_in w = length w.events

-- a list that ends at a place was open there
closed_or_open : (at : ℕ) (cs : List Container) → length (closes at cs) + length (open_after at cs) ≤ length cs
closed_or_open at [] = omega arith
closed_or_open at (c ∷ cs) =
    elim (c.end == at) as (λ b. length (if b then Close c.code c.at ∷ closes at cs else []) + length (if b then open_after at cs else c ∷ cs) ≤ length (c ∷ cs)) [
      | true ↦ omega (arith, closed_or_open at cs)
      | false ↦ omega arith
    ]

-- no more events than open lists and bytes
abbrev IsFew : Onward → Type 0
IsFew onward = (at : ℕ) (around : List Container) (bytes : List ℕ) → events_in (onward at around bytes) ≤ length around + length bytes

few_payload : (f : Onward) → IsFew f → (at : ℕ) (around : List Container) (c : Four) (kind : Kind) (len : ℕ) (bytes : List ℕ)
    → events_in (at_payload f at around c kind len bytes) ≤ 1 + length around + length bytes
few_payload f h at around c kind len bytes = choose (nat_lt (length bytes) len)
  where
    choose : (b : Bool) → length (if b then ends inside else behind (Leaf c (value_of (leaf_at kind (take len bytes))) at ∷ []) (f (at + 8 + len) around (drop len bytes))).events ≤ 1 + length around + length bytes
    choose true = omega arith
    choose false = omega (arith, h (at + 8 + len) around (drop len bytes), length-drop len bytes)

few_body : (f : Onward) → IsFew f → (at : ℕ) (around : List Container) (c : Four) (kind : Kind) (len : ℕ) (bytes : List ℕ)
    → events_in (at_body f at around c kind len bytes) ≤ 2 + length around + length bytes
few_body f h at around c kind len bytes = choose (is_list kind)
  where
    choose : (b : Bool) → events_in (if b then behind (Open c len at ∷ []) (f (at + 8) (container c at len ∷ around) bytes) else at_payload f at around c kind len bytes) ≤ 2 + length around + length bytes
    choose true = omega (arith, h (at + 8) (container c at len ∷ around) bytes)
    choose false = omega (arith, few_payload f h at around c kind len bytes)

few_or_fault : (o : Option StreamError) (w : Walk) (n : ℕ) → events_in w ≤ n → events_in (unless_fault o w) ≤ n
few_or_fault None w n h = h
few_or_fault (Some e) w n h = omega arith

few_head : (f : Onward) → IsFew f → (rows : List CodeRow) (limit at : ℕ) (around : List Container) (bytes : List ℕ)
    → events_in (at_head f rows limit at around bytes) ≤ length around + length bytes
unfolding at_head behind_head
few_head f h rows limit at around bytes =
    elim (nat_lt (length bytes) 8) as (λ b. nat_lt (length bytes) 8 ≡ b → events_in (if b then ends (if is_empty around && is_empty bytes then between else inside)
    else unless_fault (fault_at limit at around (code_of bytes) (told_length bytes)) (at_body f at around (code_of bytes) (kind_in rows (parent_of around) (code_of bytes)) (told_length bytes) (drop 8 bytes))) ≤ length around + length bytes) [
      | true ↦ λ e. omega arith
      | false ↦ λ e. few_or_fault (fault_at limit at around (code_of bytes) (told_length bytes)) _ _ (omega (
        arith,
        ltb-false (length bytes) 8 e,
        length-drop 8 bytes,
        few_body f h at around (code_of bytes) (kind_in rows (parent_of around) (code_of bytes)) (told_length bytes) (drop 8 bytes),
      ))
    ] refl

few_place : (f : Onward) → IsFew f → (rows : List CodeRow) (limit at : ℕ) (around : List Container) (bytes : List ℕ)
    → events_in (at_place f rows limit at around bytes) ≤ length around + length bytes
unfolding at_place
few_place f h rows limit at around bytes =
    let rest = if is_short at (open_after at around) then ends (broken (ShortHead at)) else at_head f rows limit at (open_after at around) bytes in
    let few : events_in rest ≤ length (open_after at around) + length bytes = choose (is_short at (open_after at around)) in
    omega (arith, few, length-append (closes at around) rest.events, closed_or_open at around)
  where
    choose : (b : Bool) → events_in (if b then ends (broken (ShortHead at)) else at_head f rows limit at (open_after at around) bytes) ≤ length (open_after at around) + length bytes
    choose true = omega arith
    choose false = few_head f h rows limit at (open_after at around) bytes

few_walk : (rows : List CodeRow) (limit n : ℕ) → IsFew (walk rows limit n)
unfolding walk
few_walk rows limit zero = λ at around bytes. omega arith
few_walk rows limit (suc n) = λ at around bytes. few_place (walk rows limit n) (few_walk rows limit n) rows limit at around bytes

few_events : (rows : List CodeRow) (limit : ℕ) (bytes : List ℕ) → events_in (walk_of rows limit bytes) ≤ length bytes
unfolding walk_from
few_events rows limit bytes = omega (arith, few_walk rows limit (suc (length bytes)) 0 [] bytes)

few_as : (fed : List ℕ) (handed : List Event) (r : Reader) (error : Option StreamError) → TellsAs fed handed r error → length handed ≤ length fed
few_as fed handed r None t =
    omega (arith, few_events r.rows r.limit fed, ap events_in t, length-append handed (ready r))
few_as fed handed r (Some e) t =
    omega (arith, few_events r.rows r.limit fed, ap length t.0.1, length-append (handed ++ ready r) t.0.0, length-append handed (ready r))

-- no more events are returned than bytes were fed
pub few_handed : (fed : List ℕ) (handed : List Event) (r : Reader) → HasRead fed handed r → length handed ≤ length fed
few_handed fed handed r h = few_as fed handed r r.error (told fed handed r h)

abbrev pub total : Tops → ℕ
total tops = tops.depth + tops.ended

one_tag : (depth ended : ℕ) → total (with_tag depth ended) ≤ depth + ended + 1
one_tag depth ended = elim (depth == 0) as (λ b. depth + (if b then ended + 1 else ended) ≤ depth + ended + 1) [ true ↦ omega arith | false ↦ omega arith ]

one_event : (tops : Tops) (e : Event) → total (after_event tops e) ≤ total tops + 1
one_event tops (Open c len at) = omega arith
one_event tops (Leaf c value at) = one_tag tops.depth tops.ended
one_event tops (Close c at) = omega (arith, one_tag (tops.depth - 1) tops.ended)

pub few_counted : (events : List Event) (tops : Tops) → total (fold after_event tops events) ≤ total tops + length events
few_counted [] tops = omega arith
few_counted (e ∷ es) tops = omega (arith, few_counted es (after_event tops e), one_event tops e)

-- so the counts are no greater than the number of bytes
pub few_tops : (fed : List ℕ) (handed : List Event) (r : Reader) → HasRead fed handed r → total (fold after_event no_tops handed) ≤ length fed
few_tops fed handed r h = omega (arith, few_handed fed handed r h, few_counted handed no_tops)

-- one event more
pub counted_more : (events : List Event) (tops : Tops) (e : Event) → fold after_event tops (events ++ e ∷ []) ≡ after_event (fold after_event tops events) e
counted_more [] tops e = refl
counted_more (f ∷ es) tops e = counted_more es (after_event tops f) e

told_none : (fed : List ℕ) (handed : List Event) (r : Reader) → HasRead fed handed r → r.error ≡ None → length (walk_of r.rows r.limit fed).events ≡ length handed + length (ready r)
told_none fed handed r h goes =
    let t : TellsAs fed handed r None = subst (TellsAs fed handed r) goes (told fed handed r h) in
    ap events_in t ∙ length-append handed (ready r)

-- if nothing is ready, a call takes a byte
pub takes_some : (fed piece : List ℕ) (handed : List Event) (old new : Reader) (n : ℕ) → HasRead fed handed old → old.error ≡ None → ready old ≡ []
    → HasRead (fed ++ take n piece) handed new → new.error ≡ None → new.rows ≡ old.rows → new.limit ≡ old.limit
    → (n < length piece → ready new ≢ []) → 0 < length piece → 0 < n
takes_some fed piece handed old new (suc n) h goes quiet k goes_on rows limit more some = omega arith
takes_some fed piece handed old new zero h goes quiet k goes_on rows limit more some =
    let same : HasRead fed handed new = subst (λ l. HasRead l handed new) (append-nil fed) k in
    let walks : length (walk_of new.rows new.limit fed).events ≡ length (walk_of old.rows old.limit fed).events =
    ap (λ rs. length (walk_of rs new.limit fed).events) rows ∙ ap (λ l. length (walk_of old.rows l fed).events) limit in
    let before : length (ready old) ≡ 0 = ap length quiet in
    let none : length (ready new) ≡ 0 = let a = told_none fed handed new same goes_on in let b = told_none fed handed old h goes in omega arith in
    absurd (more some (empty_from (ready new) none))
  where
    empty_from : (es : List Event) → length es ≡ 0 → es ≡ []
    empty_from [] e = refl
    empty_from (x ∷ es) e = absurd (cc)
