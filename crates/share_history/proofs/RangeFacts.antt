-- A range of rows, whatever is then made of each row.
use Rattle.std.proofs.Common.{◌≡◌, ℕ, ◌+◌, ◌-◌, true, false, cond, ◌≤◌, length-drop, length-take, arith, Bool, not, [], ◌∷◌, filter, List, map, take, drop, length, refl, ap, ◌∙◌}
use Rattle.std.proofs.lemmas.List.{take-map, length-map}
use Rattle.std.specs.List.{drop-map}
use Rattle.item_model.specs.declared.request.Range.{Range}
use Rattle.item_model.specs.declared.request.Range.TheVariants.{All, One, From, Span, Last}
use Rattle.item_model.specs.declared.request.Look.{Look}
use Rattle.item_model.specs.declared.request.Target.{Target}
use Rattle.item_model.specs.declared.changes.Edit.{Edit}
use Rattle.share_history.specs.Histories.{edits, up_to}
use Rattle.share_history.specs.Rows.{rows}
use Rattle.share_history.specs.Differences.{has_tag}
use Rattle.share_history.specs.Ranges.{in_range}
use Rattle.share_history.specs.Listings.{shown, shown_after, full_listing, delta_listing}
use Rattle.share_history.proofs.RowFacts.{length-rows}

pub in_range-map : {A B : Type 0} (f : A → B) (r : Range) (xs : List A) → in_range r (map f xs) ≡ map f (in_range r xs)
in_range-map f All xs = refl
in_range-map f (One place) xs = ap (take 1) (drop-map f place xs) ∙ take-map f 1 (drop place xs)
in_range-map f (From place) xs = drop-map f place xs
in_range-map f (Span from to) xs = ap (drop from) (take-map f (to + 1) xs) ∙ drop-map f from (take (to + 1) xs)
in_range-map f (Last count) xs = ap (λ n. drop (n - count) (map f xs)) (length-map xs f) ∙ drop-map f (length xs - count) xs

-- ---- how many rows are listed

no_longer_back : {A : Type 0} (n : ℕ) (xs : List A) → length (drop n xs) ≤ length xs
no_longer_back n xs = omega (arith, length-drop n xs)

no_longer_front : {A : Type 0} (n : ℕ) (xs : List A) → length (take n xs) ≤ length xs
no_longer_front n xs = omega (arith, length-take n xs)

pub length-in_range : {A : Type 0} (r : Range) (xs : List A) → length (in_range r xs) ≤ length xs
length-in_range All xs = omega arith
length-in_range (One place) xs = omega (arith, no_longer_front 1 (drop place xs), no_longer_back place xs)
length-in_range (From place) xs = no_longer_back place xs
length-in_range (Span from to) xs = omega (arith, no_longer_back from (take (to + 1) xs), no_longer_front (to + 1) xs)
length-in_range (Last count) xs = no_longer_back (length xs - count) xs

pub length-filter : {A : Type 0} (p : A → Bool) (xs : List A) → length (filter p xs) ≤ length xs
length-filter p [] = omega arith
length-filter p (x ∷ xs) = elim (p x) as (λ b. length (cond b (x ∷ filter p xs) (filter p xs)) ≤ length (x ∷ xs)) [
  | true ↦ omega (arith, length-filter p xs)
  | false ↦ omega (arith, length-filter p xs)
]

pub length-full : (bs : List (List Edit)) (t : Target) (look : Look) → length (full_listing bs t look).rows ≤ length (edits bs)
length-full bs t look =
    omega (arith, length-map (in_range look.range (rows (edits bs) t look.query)) (shown t look.meta), length-in_range look.range (rows (edits bs) t look.query), length-rows (edits bs) t look.query)

pub length-delta : (bs : List (List Edit)) (t : Target) (look : Look) (base : ℕ) → length (delta_listing bs t look base).rows ≤ length (edits bs)
length-delta bs t look base =
    omega (
      arith,
      length-filter (λ tag. not (has_tag (shown_after (up_to bs base) t look) tag)) (shown_after bs t look),
      length-map (rows (edits bs) t look.query) (shown t look.meta),
      length-rows (edits bs) t look.query,
    )
