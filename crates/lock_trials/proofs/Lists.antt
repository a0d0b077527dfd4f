-- Lists of the numbers that handles add.
use Rattle.std.proofs.Common.{◌≡◌, ℕ, suc, ◌+◌, List, [], ◌∷◌, ◌++◌, sym, ap, ◌∙◌, subst, add-one, append_assoc}
use Rattle.lock_trials.specs.declared.numbers.Number.{Number}
use Rattle.lock_trials.specs.Work.{first_numbers}

-- one more number after the first ones
pub one_more : (before now later : List Number) (by n : ℕ) → later ≡ now ++ record { by = by; value = n } ∷ [] → now ≡ before ++ first_numbers by n → later ≡ before ++ first_numbers by (n + 1)
one_more before now later by n added first =
    subst (λ m. later ≡ before ++ first_numbers by m) (sym (add-one n))
    (added ∙ (ap (λ l. l ++ record { by = by; value = n } ∷ []) first ∙ append_assoc before (first_numbers by n) (record { by = by; value = n } ∷ [])))
