-- A text that is put into a set of texts.
use Rattle.std.proofs.Common.{◌≡◌, ℕ, Bool, true, false, cond, List, [], ◌∷◌, map, fold, filter, refl, sym, ap, ◌∙◌, Less, Equal, Greater, nat_cmp, Bor}
use Rattle.std.specs.Ordering.{match_ordering}
use Rattle.std.specs.Cmp.Lexicographic.{slice_cmp}
use Rattle.std.specs.BTreeSet.{insert_key}
use Rattle.share_history.specs.BrowseListings.{is_filled}
use Rattle.share_history.specs.RowSeen.{text_at}

-- inserting a reference into a set inserts its text
pub insert_key-text : (k : Bor (List ℕ)) (ks : List (Bor (List ℕ))) → map text_at (insert_key (λ x y. slice_cmp nat_cmp x.now y.now) ks k) ≡ insert_key (slice_cmp nat_cmp) (map text_at ks) k.now
insert_key-text k [] = refl
insert_key-text k (x ∷ xs) =
    elim (slice_cmp nat_cmp k.now x.now) as (λ r. map text_at (match_ordering r (k ∷ x ∷ xs) (x ∷ xs) (x ∷ insert_key (λ x y. slice_cmp nat_cmp x.now y.now) xs k))
    ≡ match_ordering r (k.now ∷ x.now ∷ map text_at xs) (x.now ∷ map text_at xs) (x.now ∷ insert_key (slice_cmp nat_cmp) (map text_at xs) k.now)) [
      | Less ↦ refl
      | Equal ↦ refl
      | Greater ↦ ap (λ ts. x.now ∷ ts) (insert_key-text k xs)
    ]

-- the set with one more text that is not empty
pub text_put : (k : Bor (List ℕ)) (old new : List (Bor (List ℕ))) (b : Bool) → b ≡ true → b ≡ is_filled k.now → new ≡ insert_key (λ x y. slice_cmp nat_cmp x.now y.now) old k
    → map text_at new ≡ fold (insert_key (slice_cmp nat_cmp)) (map text_at old) (filter is_filled (k.now ∷ []))
text_put k old new b n h e =
    ap (map text_at) e ∙ insert_key-text k old ∙ sym (ap (λ t. fold (insert_key (slice_cmp nat_cmp)) (map text_at old) (cond t (k.now ∷ []) [])) (sym h ∙ n))

-- an insertion of texts that pass a test begins with the first
pub filtered_cons : (put : List (List ℕ) → List ℕ → List (List ℕ)) (p : List ℕ → Bool) (set : List (List ℕ)) (t : List ℕ) (ts : List (List ℕ))
    → fold put (fold put set (filter p (t ∷ []))) (filter p ts) ≡ fold put set (filter p (t ∷ ts))
filtered_cons put p set t ts = elim (p t) as (λ b. fold put (fold put set (cond b (t ∷ []) [])) (filter p ts) ≡ fold put set (cond b (t ∷ filter p ts) (filter p ts))) [
  | true ↦ refl
  | false ↦ refl
]
