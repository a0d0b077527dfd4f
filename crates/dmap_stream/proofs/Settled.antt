-- If no event is ready, no list ends at the place.
use Rattle.std.proofs.Common.{◌≡◌, ℕ, ◌<◌, List, [], ◌∷◌, ◌++◌, length, Bool, true, false, not, ◌&&◌, nat_lt, ◌==◌, if◌then◌else◌, Option, Some, None, refl, ap}
use Rattle.std.specs.Prelude.{option_to_list}
use Rattle.std.proofs.lemmas.Bool.{lt-ltb}
use Rattle.dmap_tags.specs.Codes.{Four}
use Rattle.dmap_tags.specs.declared.kinds.Kind.{Kind}
use Rattle.dmap_tags.specs.Kinds.{is_list}
use Rattle.code_table.specs.declared.row.CodeRow.{CodeRow}
use Rattle.dmap_stream.specs.declared.containers.Container.{Container}
use Rattle.dmap_stream.specs.declared.event.Event.TheVariants.{Close}
use Rattle.dmap_stream.specs.declared.position.Position.{Position}
use Rattle.dmap_stream.specs.declared.position.Phase.TheVariants.{Head, Payload}
use Rattle.dmap_stream.specs.Walk.{closes, open_after, at_head, at_payload, walk_from}
use Rattle.dmap_stream.specs.Reading.{ready_at, resumed, is_due}

second_empty : {A : Type 0} (o : Option A) (xs : List A) → option_to_list o ++ xs ≡ [] → xs ≡ []
second_empty None xs h = h
second_empty (Some x) xs h = absurd (cc)

pub none_end : (at : ℕ) (around : List Container) → closes at around ≡ [] → open_after at around ≡ around
none_end at [] h = refl
none_end at (c ∷ around) h = same (c.end == at) h
  where
    same : (b : Bool) → (if b then Close c.code c.at ∷ closes at around else []) ≡ [] → (if b then open_after at around else c ∷ around) ≡ c ∷ around
    same true h = absurd (cc)
    same false h = refl

pub settled : (p : Position) → ready_at p ≡ [] → open_after p.start p.around ≡ p.around
settled p h = none_end p.start p.around (second_empty p.ready (closes p.start p.around) h)

pub resumed_head : (rows : List CodeRow) (limit : ℕ) (p : Position) (rest : List ℕ) → p.phase ≡ Head → ready_at p ≡ [] →
    resumed rows limit p rest ≡ at_head (walk_from rows limit) rows limit p.start p.around (p.part ++ rest)
resumed_head rows limit p rest h quiet =
    rw h (ap (λ a. at_head (walk_from rows limit) rows limit p.start a (p.part ++ rest)) (settled p quiet))

pub resumed_payload : (rows : List CodeRow) (limit : ℕ) (p : Position) (c : Four) (kind : Kind) (len : ℕ) (rest : List ℕ) → p.phase ≡ Payload c kind len → ready_at p ≡ [] →
    resumed rows limit p rest ≡ at_payload (walk_from rows limit) p.start p.around c kind len (p.part ++ rest)
resumed_payload rows limit p c kind len rest h quiet =
    rw h (ap (λ a. at_payload (walk_from rows limit) p.start a c kind len (p.part ++ rest)) (settled p quiet))

pub due_head : (p : Position) → p.phase ≡ Head → length p.part < 8 → is_due p ≡ true
due_head p h less = rw h (lt-ltb (length p.part) 8 less)

both : (a b : Bool) → a ≡ false → b ≡ true → (not a && b) ≡ true
both true b h k = absurd (cc)
both false b h k = k

pub due_payload : (p : Position) (c : Four) (kind : Kind) (len : ℕ) → p.phase ≡ Payload c kind len → is_list kind ≡ false → length p.part < len → is_due p ≡ true
due_payload p c kind len h value less = rw h (both (is_list kind) (nat_lt (length p.part) len) value (lt-ltb (length p.part) len less))
