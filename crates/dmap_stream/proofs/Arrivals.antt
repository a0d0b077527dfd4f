-- What a step that ends at a place leads to.
use Rattle.std.proofs.Common.{◌≡◌, ℕ, List, [], ◌∷◌, Bool, true, false, if◌then◌else◌, Some, Result, Ok, Err, MatchResult, refl, sym, ap, subst, ◌∙◌}
use Rattle.code_table.specs.declared.row.CodeRow.{CodeRow}
use Rattle.dmap_stream.specs.declared.containers.Container.{Container}
use Rattle.dmap_stream.specs.declared.event.Event.{Event}
use Rattle.dmap_stream.specs.declared.position.Position.{Position}
use Rattle.dmap_stream.specs.declared.position.Phase.TheVariants.{Head}
use Rattle.dmap_stream.specs.declared.refusal.StreamError.{StreamError}
use Rattle.dmap_stream.specs.declared.refusal.StreamError.TheVariants.{ShortHead, Memory}
use Rattle.dmap_stream.specs.Walk.{Walk, broken, ends, behind, closes, open_after, is_short, at_head, at_place, walk_from}
use Rattle.dmap_stream.specs.Reading.{Moves}
use Rattle.dmap_stream.proofs.Onward.{walk_on}

-- a place where an event has just become ready
abbrev pub place_behind : ℕ → List Container → Event → Position
place_behind at around event = record { start = at; around = around; phase = Head; part = []; ready = Some event }

place_is : (rows : List CodeRow) (limit at : ℕ) (around : List Container) (rest : List ℕ) (b : Bool) → is_short at (open_after at around) ≡ b →
    walk_from rows limit at around rest ≡ behind (closes at around) (if b then ends (broken (ShortHead at)) else at_head (walk_from rows limit) rows limit at (open_after at around) rest)
unfolding at_place
place_is rows limit at around rest b h =
    walk_on rows limit at around rest
    ∙ ap (λ x. behind (closes at around) (if x then ends (broken (ShortHead at)) else at_head (walk_from rows limit) rows limit at (open_after at around) rest)) h

-- a call returns an error exactly if the place is short
abbrev pub TellsShort : ℕ → List Container → Result (Unit {0}) StreamError → Type 0
TellsShort at around result =
    MatchResult result (λ _. is_short at (open_after at around) ≡ false)
    (λ e. (is_short at (open_after at around) ≡ true) × (e ≡ ShortHead at))

moved : (rows : List CodeRow) (limit at : ℕ) (around : List Container) (event : Event) (before : List ℕ → Walk) (result : Result (Unit {0}) StreamError) →
    ((rest : List ℕ) → before rest ≡ behind (event ∷ []) (walk_from rows limit at around rest)) →
    TellsShort at around result → Moves rows limit before (place_behind at around event) result
moved rows limit at around event before (Ok u) leads long =
    (refl, (λ e. absurd (cc)), λ rest. leads rest ∙ ap (behind (event ∷ [])) (place_is rows limit at around rest false long))
moved rows limit at around event before (Err e) leads short = (
  λ memory. let no : ShortHead at ≡ Memory = sym short.1 ∙ memory in absurd (cc),
  λ _ rest.
      leads rest ∙ ap (behind (event ∷ [])) (place_is rows limit at around rest true short.0)
      ∙ ap (λ x. behind (event ∷ closes at around) (ends (broken x))) (sym short.1),
)

pub arrived : (rows : List CodeRow) (limit at : ℕ) (around around' : List Container) (event : Event) (before : List ℕ → Walk) (new : Position) (result : Result (Unit {0}) StreamError) →
    around' ≡ around → new ≡ place_behind at around' event →
    ((rest : List ℕ) → before rest ≡ behind (event ∷ []) (walk_from rows limit at around rest)) →
    TellsShort at around' result → Moves rows limit before new result
arrived rows limit at around around' event before new result same after leads short =
    let lists : TellsShort at around result = subst (λ a. TellsShort at a result) same short in
    subst (λ p. Moves rows limit before p result) (sym (after ∙ ap (λ a. place_behind at a event) same))
    (moved rows limit at around event before result leads lists)
