-- A key that is put leaves the others.
use Rattle.std.proofs.Common.{◌≡◌, Bool, true, false, ◌||◌, List, [], ◌∷◌, Ordering, Less, Equal, Greater, refl, ap, ◌∙◌, ℕ}
use Rattle.std.specs.Ordering.{match_ordering}
use Rattle.std.specs.List.{list_any}
use Rattle.std.specs.BTreeSet.{insert_key}
use Rattle.std.specs.BTreeMap.{is_at}
use Rattle.std.proofs.lemmas.Bool.{or_right}
use Rattle.playlist_store.specs.Lists.{near_cmp}

or_either : (a b c : Bool) → (b ≡ true → c ≡ true) → (a || b) ≡ true → (a || c) ≡ true
or_either true b c later h = refl
or_either false b c later h = later h

stays_put : {K : Type 0} (R : K → K → Ordering) (p : K → Bool) (k : K) (ks : List K) → list_any p ks ≡ true → list_any p (insert_key R ks k) ≡ true
stays_put R p k [] h = or_right (p k) false h
stays_put R p k (x ∷ xs) h = elim (R k x) as (λ r. list_any p (match_ordering r (k ∷ x ∷ xs) (x ∷ xs) (x ∷ insert_key R xs k)) ≡ true) [
  | Less ↦ or_right (p k) (list_any p (x ∷ xs)) h
  | Equal ↦ h
  | Greater ↦ or_either (p x) (list_any p xs) (list_any p (insert_key R xs k)) (λ t. stays_put R p k xs t) h
]

pub stays_noted : (q k : ℕ × ℕ) (old new : List (ℕ × ℕ)) → new ≡ insert_key near_cmp old k → list_any (is_at (near_cmp q)) old ≡ true → list_any (is_at (near_cmp q)) new ≡ true
stays_noted q k old new is h = ap (list_any (is_at (near_cmp q))) is ∙ stays_put near_cmp (is_at (near_cmp q)) k old h
