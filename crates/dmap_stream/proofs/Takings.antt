-- Taking bytes from the beginning of a chunk.
use Rattle.std.proofs.Common.{◌≡◌, ℕ, ◌+◌, ◌-◌, ◌<◌, ◌≤◌, min, List, [], ◌++◌, length, take, drop, true, Result, Ok, Err, inl, inr, refl, sym, ap, subst, ◌∙◌, arith, length-append, append_assoc}
use Rattle.std.proofs.Math.Seq.{take-add}
use Rattle.std.proofs.lemmas.Bool.{cases_lt}
use Rattle.std.proofs.lemmas.List.{length-drop, length-take, take-append-drop}
use Rattle.code_table.specs.declared.row.CodeRow.{CodeRow}
use Rattle.dmap_stream.specs.declared.event.Event.{Event}
use Rattle.dmap_stream.specs.declared.position.Position.{Position}
use Rattle.dmap_stream.specs.declared.refusal.StreamError.{StreamError}
use Rattle.dmap_stream.specs.Walk.{Walk, behind}
use Rattle.dmap_stream.specs.Reading.{ready_at, resumed, is_due, Moves, Takes}

pub behind_none : (es : List Event) (w : Walk) → es ≡ [] → behind es w ≡ w
behind_none es w h = rw h refl

front_length : (part piece : List ℕ) (m : ℕ) → length (part ++ take m piece) ≡ length part + min m (length piece)
front_length part piece m = length-append part (take m piece) ∙ ap (λ k. length part + k) (length-take m piece)

-- bytes make no event ready while there are fewer than are wanted
abbrev pub IsSilent : (List ℕ → Walk) → ℕ → Type 0
IsSilent says wanted = (bytes : List ℕ) → length bytes < wanted → (says bytes).events ≡ []

-- all bytes of the chunk were taken, and the expected head or payload is still not whole
pub waits : (rows : List CodeRow) (limit : ℕ) (says : List ℕ → Walk) (part piece : List ℕ) (wanted n : ℕ) (new : Position) →
    n ≡ min (wanted - length part) (length piece) → new.part ≡ part ++ take n piece → length new.part < wanted → IsSilent says wanted →
    ready_at new ≡ [] → is_due new ≡ true → ((rest : List ℕ) → resumed rows limit new rest ≡ says (new.part ++ rest)) →
    Takes rows limit (λ rest. says (part ++ rest)) piece new (Ok n)
waits rows limit says part piece wanted n new took filled less silent quiet due resumes = (
  omega arith,
  (λ some _. let long : length new.part ≡ length part + min n (length piece) = ap length filled ∙ length-append part (take n piece) ∙ ap (λ k. length part + k) (length-take n piece) in absurd (omega arith)),
  due,
  (λ rest.
      ap says (sym (append_assoc part (take n piece) rest) ∙ ap (λ l. l ++ rest) (sym filled))
      ∙ sym (resumes rest) ∙ sym (behind_none (ready_at new) (resumed rows limit new rest) quiet)),
  λ m few. silent (part ++ take m piece) (let long = front_length part piece m in omega arith),
)

pub takes_same : (rows : List CodeRow) (limit : ℕ) (before before' : List ℕ → Walk) (piece : List ℕ) (new : Position) (result : Result ℕ StreamError) →
    ((rest : List ℕ) → before rest ≡ before' rest) → Takes rows limit before' piece new result → Takes rows limit before piece new result
takes_same rows limit before before' piece new (Ok n) same h =
    (h.0, h.1, h.2, (λ rest. same (take n piece ++ rest) ∙ h.3 rest), λ m few. ap (λ (w : Walk). w.events) (same (take m piece)) ∙ h.4 m few)
takes_same rows limit before before' piece new (Err e) same h = (h.0, λ known rest. same (piece ++ rest) ∙ h.1 known rest)

pub moves_same : (rows : List CodeRow) (limit : ℕ) (before before' : List ℕ → Walk) (new : Position) (result : Result (Unit {0}) StreamError) →
    ((rest : List ℕ) → before rest ≡ before' rest) → Moves rows limit before' new result → Moves rows limit before new result
moves_same rows limit before before' new (Ok u) same h = (h.0, h.1, λ rest. same rest ∙ h.2 rest)
moves_same rows limit before before' new (Err e) same h = (h.0, λ known rest. same rest ∙ h.1 known rest)

-- a call that takes no bytes
pub takes_none : (rows : List CodeRow) (limit : ℕ) (before : List ℕ → Walk) (piece : List ℕ) (new : Position) →
    Moves rows limit before new (Ok tt) → Takes rows limit before piece new (Ok 0)
takes_none rows limit before piece new h = (omega arith, (λ _. h.1), h.0, h.2, λ m few. absurd (omega arith))

pub takes_fault : (rows : List CodeRow) (limit : ℕ) (before : List ℕ → Walk) (piece : List ℕ) (new : Position) (e : StreamError) →
    Moves rows limit before new (Err e) → Takes rows limit before piece new (Err e)
takes_fault rows limit before piece new e h = (h.0, λ known rest. h.1 known (piece ++ rest))

-- first n bytes, and then those that a further call takes
pub takes_more : (rows : List CodeRow) (limit : ℕ) (says : List ℕ → Walk) (part part' piece rest' : List ℕ) (wanted n m : ℕ) (new : Position) →
    part' ≡ part ++ take n piece → rest' ≡ drop n piece → n ≤ length piece → IsSilent says wanted → length part + n ≤ wanted →
    Takes rows limit (λ rest. says (part' ++ rest)) rest' new (Ok m) → Takes rows limit (λ rest. says (part ++ rest)) piece new (Ok (n + m))
takes_more rows limit says part part' piece rest' wanted n m new filled left within silent room h =
    let long : length rest' ≡ length piece - n = ap length left ∙ length-drop n piece in (
      omega (arith, h.0),
      (λ some. h.1 (omega arith)),
      h.2,
      (λ rest. ap says (more rest) ∙ h.3 rest),
      quiet,
    )
  where
    front : (k : ℕ) → part ++ take (n + k) piece ≡ part' ++ take k rest'
    front k =
        ap (λ l. part ++ l) (take-add n k piece)
        ∙ sym (append_assoc part (take n piece) (take k (drop n piece)))
        ∙ ap (λ l. l ++ take k (drop n piece)) (sym filled)
        ∙ ap (λ l. part' ++ take k l) (sym left)

    more : (rest : List ℕ) → part ++ (take (n + m) piece ++ rest) ≡ part' ++ (take m rest' ++ rest)
    more rest = sym (append_assoc part (take (n + m) piece) rest) ∙ ap (λ l. l ++ rest) (front m) ∙ append_assoc part' (take m rest') rest

    quiet : (k : ℕ) → k < n + m → (says (part ++ take k piece)).events ≡ []
    quiet k few = elim (cases_lt k n) [
      | inl early ↦ silent (part ++ take k piece) (let short = front_length part piece k in omega arith)
      | inr late ↦
          let same : n + (k - n) ≡ k = omega arith in
          ap (λ x. (says (part ++ take x piece)).events) (sym same) ∙ ap (λ l. (says l).events) (front (k - n)) ∙ h.4 (k - n) (omega arith)
    ]

pub takes_fault_later : (rows : List CodeRow) (limit : ℕ) (says : List ℕ → Walk) (part part' piece rest' : List ℕ) (n : ℕ) (new : Position) (e : StreamError) →
    part' ≡ part ++ take n piece → rest' ≡ drop n piece →
    Takes rows limit (λ rest. says (part' ++ rest)) rest' new (Err e) → Takes rows limit (λ rest. says (part ++ rest)) piece new (Err e)
takes_fault_later rows limit says part part' piece rest' n new e filled left h =
    (h.0, λ known rest. ap says (more rest) ∙ h.1 known rest)
  where
    more : (rest : List ℕ) → part ++ (piece ++ rest) ≡ part' ++ (rest' ++ rest)
    more rest =
        ap (λ l. part ++ (l ++ rest)) (sym (take-append-drop n piece))
        ∙ ap (λ l. part ++ l) (append_assoc (take n piece) (drop n piece) rest)
        ∙ sym (append_assoc part (take n piece) (drop n piece ++ rest))
        ∙ ap (λ l. l ++ (drop n piece ++ rest)) (sym filled)
        ∙ ap (λ l. part' ++ (l ++ rest)) (sym left)

-- n bytes, and then a step that takes none
pub takes_then : (rows : List CodeRow) (limit : ℕ) (says : List ℕ → Walk) (part part' piece : List ℕ) (wanted n : ℕ) (new : Position) →
    part' ≡ part ++ take n piece → n ≤ length piece → IsSilent says wanted → length part + n ≤ wanted →
    Moves rows limit (λ rest. says (part' ++ rest)) new (Ok tt) → Takes rows limit (λ rest. says (part ++ rest)) piece new (Ok n)
takes_then rows limit says part part' piece wanted n new filled within silent room h =
    let e : n + 0 ≡ n = omega arith in
    subst (λ k. Takes rows limit (λ rest. says (part ++ rest)) piece new (Ok k)) e
    (takes_more rows limit says part part' piece (drop n piece) wanted n 0 new filled refl within silent room (takes_none rows limit (λ rest. says (part' ++ rest)) (drop n piece) new h))

pub takes_then_fault : (rows : List CodeRow) (limit : ℕ) (says : List ℕ → Walk) (part part' piece : List ℕ) (n : ℕ) (new : Position) (e : StreamError) →
    part' ≡ part ++ take n piece →
    Moves rows limit (λ rest. says (part' ++ rest)) new (Err e) → Takes rows limit (λ rest. says (part ++ rest)) piece new (Err e)
takes_then_fault rows limit says part part' piece n new e filled h =
    takes_fault_later rows limit says part part' piece (drop n piece) n new e filled refl (takes_fault rows limit (λ rest. says (part' ++ rest)) (drop n piece) new e h)

-- what was filled up to what is wanted has just that many bytes
pub whole : (part part' piece : List ℕ) (wanted n : ℕ) → n ≡ min (wanted - length part) (length piece) → part' ≡ part ++ take n piece → length part ≤ wanted → wanted ≤ length part' → length part' ≡ wanted
whole part part' piece wanted n took filled within full =
    let long : length part' ≡ length part + min n (length piece) = ap length filled ∙ length-append part (take n piece) ∙ ap (λ k. length part + k) (length-take n piece) in
    omega arith
