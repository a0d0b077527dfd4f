-- What is found at a revision, as the versions of a key change.
use Rattle.std.proofs.Common.{◌≡◌, ◌≤◌, ◌<◌, ◌-◌, ℕ, zero, suc, cond, List, [], ◌∷◌, length, take, get_or, Option, Some, None, refl, sym, ap, ◌∙◌, arith}
use Rattle.std.specs.Prelude.{nat_le, Bool, true, false}
use Rattle.std.proofs.lemmas.Bool.{le-leb, lt-leb}
use Rattle.key_versions.specs.declared.version.Version.{Version}
use Rattle.key_versions.specs.Found.{found, value_in}

module _ {T : Type 0} where
  -- a version is found from its revision on, and before it what is older
  pub found_later : (v : Version T) (vs : List (Version T)) (base : ℕ) → base < v.revision → found (v ∷ vs) base ≡ found vs base
  found_later v vs base h = ap (λ b. cond b (Some v) (found vs base)) (lt-leb v.revision base h)

  pub found_first : (v : Version T) (vs : List (Version T)) (base : ℕ) → v.revision ≤ base → found (v ∷ vs) base ≡ Some v
  found_first v vs base h = ap (λ b. cond b (Some v) (found vs base)) (le-leb v.revision base h)

  -- the oldest version is not found at the revision of the next or later
  oldest_unseen : (v : Version T) (vs : List (Version T)) (base : ℕ) (d : Version T) (n : ℕ) → length vs ≡ suc n → (get_or (v ∷ vs) n d).revision ≤ base
      → found (v ∷ take n vs) base ≡ found (v ∷ vs) base
  oldest_unseen v [] base d n some h = absurd (omega (arith, some))
  oldest_unseen v (w ∷ xs) base d zero some h = found_first v [] base h ∙ sym (found_first v (w ∷ xs) base h)
  oldest_unseen v (w ∷ xs) base d (suc m) some h = ap (cond (nat_le v.revision base) (Some v)) (oldest_unseen w xs base d m (omega (arith, some)) h)

  pub past_one : (v : Version T) (vs : List (Version T)) (base : ℕ) → length vs ≡ 1 → v.revision ≤ base → found (v ∷ take (length vs - 1) vs) base ≡ found (v ∷ vs) base
  past_one v vs base one h =
      ap (λ n. found (v ∷ take n vs) base) (let none : length vs - 1 ≡ 0 = omega (arith, one) in none) ∙ oldest_unseen v vs base v 0 one h

  pub past_more : (v : Version T) (vs : List (Version T)) (base : ℕ) (d : Version T) → 2 ≤ length vs → (get_or vs (length vs - 2) d).revision ≤ base
      → found (v ∷ take (length vs - 1) vs) base ≡ found (v ∷ vs) base
  past_more v vs base d more h =
      ap (λ n. found (v ∷ take n vs) base) (let next : length vs - 1 ≡ suc (length vs - 2) = omega (arith, more) in next)
      ∙ oldest_unseen v vs base d (suc (length vs - 2)) (let whole : length vs ≡ suc (suc (length vs - 2)) = omega (arith, more) in whole) h

  -- removing a key that had nothing to find changes no value
  pub gone_value : (b : Bool) (new mid : List (Version T)) (base : ℕ) (old : Option T) → new ≡ cond b [] mid → (b ≡ true → value_in mid base ≡ None)
      → value_in mid base ≡ old → value_in new base ≡ old
  gone_value true new mid base old is gone same = ap (λ vs. value_in vs base) is ∙ sym (gone refl) ∙ same
  gone_value false new mid base old is gone same = ap (λ vs. value_in vs base) is ∙ same
