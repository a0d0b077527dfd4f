-- Rows that are shown one after another.
use Rattle.std.proofs.Common.{◌≡◌, ◌+◌, ◌++◌, ◌∷◌, [], ℕ, List, map, take, Some, slice_get, refl, sym, ap, ◌∙◌}
use Rattle.std.proofs.lemmas.List.{take_more}
use Rattle.std.proofs.lemmas.Option.{get_or_from_slice_get, slice_get_within}
use Rattle.dmap_tags.specs.Tree.{Tree}

tags_in : List (ℕ × Tree) → List Tree
tags_in rows = map (λ row. row.1) rows

tags_both : (xs ys : List (ℕ × Tree)) → tags_in (xs ++ ys) ≡ tags_in xs ++ tags_in ys
unfolding tags_in
tags_both [] ys = refl
tags_both (x ∷ xs) ys = ap (λ (ts : List Tree). x.1 ∷ ts) (tags_both xs ys)

-- one row more
pub row_more : (rows : List (ℕ × Tree)) (n : ℕ) (row : ℕ × Tree) (before after : List Tree) → slice_get rows n ≡ Some row → before ≡ map (λ r. r.1) (take n rows)
    → after ≡ before ++ row.1 ∷ [] → after ≡ map (λ r. r.1) (take (n + 1) rows)
unfolding tags_in
row_more rows n row before after found so_far more =
    more ∙ ap (λ (ts : List Tree). ts ++ row.1 ∷ []) so_far
    ∙ sym (ap tags_in (take_more rows n row (slice_get_within rows n row found) ∙ ap (λ (r : ℕ × Tree). take n rows ++ r ∷ []) (get_or_from_slice_get rows n row row found))
    ∙ tags_both (take n rows) (row ∷ []))
