-- What the head at a place shows: its fault, or that the place has none.
use Rattle.std.proofs.Common.{◌≡◌, ℕ, ◌+◌, ◌≤◌, List, [], ◌∷◌, length, Bool, true, false, ◌&&◌, nat_lt, nat_le, if◌then◌else◌, Option, Some, None, refl, sym, ap, ◌∙◌, arith}
use Rattle.std.proofs.lemmas.Bool.{lt-ltb, ltb-true, ltb-false, leb-true, leb-false, and_parts, and_from}
use Rattle.dmap_stream.specs.declared.containers.Container.{Container}
use Rattle.dmap_stream.specs.declared.refusal.StreamError.{StreamError}
use Rattle.dmap_stream.specs.declared.refusal.StreamError.TheVariants.{TooLarge, TooDeep, Overrun, ShortHead, Truncated, Memory}
use Rattle.dmap_stream.specs.Walk.{is_empty, is_short, passes, fault_at}
use Rattle.tag_laws.specs.Places.{Place, code_at, length_at, HasRoom, HasHead, IsOpen}
use Rattle.tag_laws.specs.Faults.{IsShort, Passes, HasFault}
use Rattle.tag_laws.proofs.Ways.{room_or_short}
use Rattle.tag_laws.proofs.FromPlaces.{NoFaultAt}

empty_is : (around : List Container) → is_empty around ≡ true → around ≡ []
empty_is [] h = refl
empty_is (c ∷ around) h = absurd (cc)

passes_is : (end : ℕ) (around : List Container) → passes end around ≡ true → Passes end around
passes_is end [] h = absurd (cc)
passes_is end (c ∷ around) h = ltb-true c.end end h

passes_not : (end : ℕ) (around : List Container) → passes end around ≡ false → Passes end around → ⊥
passes_not end [] h k = k
passes_not end (c ∷ around) h k = let le = ltb-false c.end end h in omega arith

pub short_is : (at : ℕ) (around : List Container) → is_short at around ≡ true → IsShort at around
short_is at [] h = absurd (cc)
short_is at (c ∷ around) h =
    let both = and_parts (nat_lt at c.end) (nat_lt c.end (at + 8)) h in
    (ltb-true at c.end both.0, ltb-true c.end (at + 8) both.1)

short_not : (at : ℕ) (around : List Container) → is_short at around ≡ false → IsShort at around → ⊥
short_not at [] h k = k
short_not at (c ∷ around) h k =
    absurd (let bad : true ≡ false = sym (and_from (nat_lt at c.end) (nat_lt c.end (at + 8)) (lt-ltb at c.end k.0) (lt-ltb c.end (at + 8) k.1)) ∙ h in cc)

-- the lists around a place end there or after it, the inner ones before the outer
abbrev pub Nested : ℕ → List Container → Type 0
Nested at [] = Unit {0}
Nested at (c ∷ around) = (at ≤ c.end) × Nested c.end around

pub room : (at : ℕ) (around : List Container) → Nested at around → IsOpen at around → is_short at around ≡ false → HasRoom at around
room at [] nested going short = tt
room at (c ∷ around) nested going short = by (nat_lt at c.end) (nat_lt c.end (at + 8)) refl refl short
  where
    by : (a b : Bool) → nat_lt at c.end ≡ a → nat_lt c.end (at + 8) ≡ b → (a && b) ≡ false → at + 8 ≤ c.end
    by true true h k both = absurd (cc)
    by true false h k both = ltb-false c.end (at + 8) k
    by false b h k both =
        let ends = ltb-false at c.end h in
        let within = nested.0 in
        absurd (going (omega arith))

-- a tag that ends inside its list leaves the lists around it nested
pub nested_within : (at end : ℕ) (around : List Container) → Nested at around → passes end around ≡ false → Nested end around
nested_within at end [] nested h = tt
nested_within at end (c ∷ around) nested h = (ltb-false c.end end h, nested.1)

pub no_head : (limit : ℕ) (bytes : List ℕ) (p : Place) → (HasHead bytes p → ⊥) → is_short p.at p.around ≡ false → NoFaultAt limit bytes p
no_head limit bytes p none short (TooLarge at) h = none h.1
no_head limit bytes p none short (TooDeep at) h = none h.1
no_head limit bytes p none short (Overrun at c) h = none h.1
no_head limit bytes p none short (ShortHead at) h = short_not p.at p.around short h.1
no_head limit bytes p none short (Truncated at) h = h
no_head limit bytes p none short Memory h = h

sound_head : (limit : ℕ) (bytes : List ℕ) (p : Place) → HasHead bytes p → (is_empty p.around && nat_lt limit (length_at bytes p)) ≡ false
    → nat_le 32 (length p.around) ≡ false → passes (p.at + 8 + length_at bytes p) p.around ≡ false → NoFaultAt limit bytes p
sound_head limit bytes p head small shallow within (TooLarge at) h =
    let bad : true ≡ false =
    sym (and_from (is_empty p.around) (nat_lt limit (length_at bytes p)) (ap is_empty h.2) (lt-ltb limit (length_at bytes p) h.3)) ∙ small in
    absurd (cc)
sound_head limit bytes p head small shallow within (TooDeep at) h = let deep = h.2 in let less = leb-false 32 (length p.around) shallow in omega arith
sound_head limit bytes p head small shallow within (Overrun at c) h = passes_not (p.at + 8 + length_at bytes p) p.around within h.4
sound_head limit bytes p head small shallow within (ShortHead at) h = room_or_short p.at p.around head.room h.1
sound_head limit bytes p head small shallow within (Truncated at) h = h
sound_head limit bytes p head small shallow within Memory h = h

-- what a head's fault is, if there is any
abbrev pub IsHeadFault : ℕ → List ℕ → Place → Option StreamError → Type 0
IsHeadFault limit bytes p None = NoFaultAt limit bytes p × (passes (p.at + 8 + length_at bytes p) p.around ≡ false)
IsHeadFault limit bytes p (Some e) = HasFault limit bytes p e

pub head_fault : (limit : ℕ) (bytes : List ℕ) (p : Place) → HasHead bytes p → IsHeadFault limit bytes p (fault_at limit p.at p.around (code_at bytes p) (length_at bytes p))
head_fault limit bytes p head =
    by (is_empty p.around && nat_lt limit (length_at bytes p)) (nat_le 32 (length p.around)) (passes (p.at + 8 + length_at bytes p) p.around) refl refl refl
  where
    by : (a b c : Bool) → (is_empty p.around && nat_lt limit (length_at bytes p)) ≡ a → nat_le 32 (length p.around) ≡ b
        → passes (p.at + 8 + length_at bytes p) p.around ≡ c
        → IsHeadFault limit bytes p (if a then Some (TooLarge p.at) else (if b then Some (TooDeep p.at) else (if c then Some (Overrun p.at (code_at bytes p)) else None)))
    by true b c large deep over =
        let both = and_parts (is_empty p.around) (nat_lt limit (length_at bytes p)) large in
        (refl, head, empty_is p.around both.0, ltb-true limit (length_at bytes p) both.1)
    by false true c large deep over = (refl, head, leb-true 32 (length p.around) deep)
    by false false true large deep over = (refl, head, refl, leb-false 32 (length p.around) deep, passes_is (p.at + 8 + length_at bytes p) p.around over)
    by false false false large deep over = (sound_head limit bytes p head large deep over, over)
